use Rattle.std.proofs.Common.{◌≡◌, ◌++◌}
use Rattle.monitor_state.specs.StateCuts.{cut_tables}
use Rattle.state_split.specs.Shares.{OneEach}
use Rattle.state_split.proofs.tables.cut_tables.Given as goal

-- with those that are left behind it, each share is what it shall be
abbrev pub invariant-loop-table : goal.invariant-loop-table
invariant-loop-table g l =
    let near = g.S.Sorter.region l.sorter in
    OneEach (g.S.Sorter.count l.sorter) (λ k share. share.items ++ cut_tables (near k) l.table-iterator.rest.items
    ≡ cut_tables (near k) l.fn.tables.items) l.cuts.items
