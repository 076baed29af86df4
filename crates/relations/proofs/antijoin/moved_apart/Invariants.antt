use Rattle.std.proofs.Common.{◌≡◌, ◌++◌, not}
use Rattle.std.specs.List.{filter}
use Rattle.mfotl_model.specs.Tables.{has_row, part}
use Rattle.relations.proofs.antijoin.moved_apart.Given as goal

abbrev pub invariant-loop-row : goal.invariant-loop-row
invariant-loop-row l =
    l.kept.items ++ filter (λ row. not (has_row l.seconds (part l.columns l.wanted row))) l.row-iterator.rest.items
    ≡ filter (λ row. not (has_row l.seconds (part l.columns l.wanted row))) l.fn.rows.items
