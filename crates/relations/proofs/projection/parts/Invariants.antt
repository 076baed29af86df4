use Rattle.std.proofs.Common.{◌≡◌, ◌++◌, drop, map}
use Rattle.mfotl_model.specs.Tables.{part}
use Rattle.relations.proofs.projection.parts.Given as goal

abbrev pub invariant-loop-row : goal.invariant-loop-row
invariant-loop-row l = l.parts.items ++ map (part l.columns l.wanted) (drop l.row-index l.rows)
    ≡ map (part l.columns l.wanted) l.rows
