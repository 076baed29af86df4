use Rattle.std.proofs.Common.{◌≡◌, ◌++◌, map}
use Rattle.monitor_state.specs.StateCuts.{cut_tables}
use Rattle.state_split.specs.Shares.{OneEach}
use Rattle.state_split.proofs.tables.cut_lists.Given as goal

-- with those that are left behind it, each share is what it shall be
abbrev pub invariant-loop-tables : goal.invariant-loop-tables
invariant-loop-tables g l =
    let near = g.S.Sorter.region l.sorter in
    OneEach (g.S.Sorter.count l.sorter) (λ k share. map (λ ts. ts.items) share.items
    ++ map (cut_tables (near k)) (map (λ ts. ts.items) l.tables-iterator.rest.items)
    ≡ map (cut_tables (near k)) (map (λ ts. ts.items) l.fn.lists.items)) l.cuts.items
