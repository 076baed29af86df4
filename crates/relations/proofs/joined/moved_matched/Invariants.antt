use Rattle.std.proofs.Common.{◌≡◌, ◌++◌}
use Rattle.std.specs.List.{filter}
use Rattle.mfotl_model.specs.Tables.{has_row, part}
use Rattle.relations.proofs.joined.moved_matched.Given as goal

abbrev pub invariant-loop-row : goal.invariant-loop-row
invariant-loop-row l =
    l.kept.items ++ filter (λ row. has_row l.seconds (part l.columns l.wanted row)) l.row-iterator.rest.items
    ≡ filter (λ row. has_row l.seconds (part l.columns l.wanted row)) l.fn.rows.items
