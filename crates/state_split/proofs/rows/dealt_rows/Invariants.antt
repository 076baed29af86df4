use Rattle.std.proofs.Common.{◌≡◌, ℕ, Bool, ◌++◌, map}
use Rattle.std.specs.List.{filter}
use Rattle.state_split.specs.{Shares.OneEach, Sieves.is_kept}
use Rattle.state_split.proofs.rows.dealt_rows.Given as goal

-- with those that are left behind it, each share is what it shall be
abbrev pub invariant-loop-kept : goal.invariant-loop-kept
invariant-loop-kept g l =
    let test : ℕ → g.K.Kept.Told → Bool = λ k e. is_kept (g.S.Sorter.region l.sorter k) l.columns (g.K.Kept.row_of e) in
    OneEach (g.S.Sorter.count l.sorter) (λ k share.
    map g.K.Kept.told share.items ++ filter (test k) (map g.K.Kept.told l.kept-iterator.rest.items)
    ≡ filter (test k) (map g.K.Kept.told l.fn.rows.items)) l.shares.items
