use Rattle.std.proofs.Common.{◌≡◌, ◌++◌, drop, not}
use Rattle.std.specs.List.{filter}
use Rattle.mfotl_model.specs.Tables.{has_row, part}
use Rattle.relations.proofs.PairLemmas.{Spending}
use Rattle.relations.proofs.matched.unmatched.Given as goal

abbrev pub invariant-loop-row : goal.invariant-loop-row
invariant-loop-row g l =
    (l.kept.items ++ filter (λ row. not (has_row l.index.rows (part l.columns l.index.columns row)))
    (drop l.row-index l.rows)
    ≡ filter (λ row. not (has_row l.index.rows (part l.columns l.index.columns row))) l.rows)
    × Spending l.row-index l.steps l.fn.steps l.index.rows
