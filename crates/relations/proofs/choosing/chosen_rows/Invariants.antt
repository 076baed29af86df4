use Rattle.std.proofs.Common.{◌≡◌, ◌++◌, drop}
use Rattle.std.specs.List.{filter}
use Rattle.mfotl_model.specs.Tables.{valuation}
use Rattle.relations.specs.Operations.{chosen}
use Rattle.relations.proofs.choosing.chosen_rows.Given as goal

abbrev pub invariant-loop-row : goal.invariant-loop-row
invariant-loop-row l =
    l.kept.items ++ filter (λ row. chosen l.comparison l.wanted (valuation l.columns row)) (drop l.row-index l.rows)
    ≡ filter (λ row. chosen l.comparison l.wanted (valuation l.columns row)) l.rows
