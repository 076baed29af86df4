use Rattle.std.proofs.Common.{◌≡◌, ◌++◌, drop}
use Rattle.std.specs.List.{flat_map}
use Rattle.relations.specs.Operations.{pairs_with}
use Rattle.relations.proofs.matched.turned_pairs.Given as goal

abbrev pub invariant-loop-row : goal.invariant-loop-row
invariant-loop-row g l =
    l.all.items ++ flat_map (pairs_with l.index.columns l.columns l.index.rows) (drop l.row-index l.rows)
    ≡ flat_map (pairs_with l.index.columns l.columns l.index.rows) l.rows
