use Rattle.std.proofs.Common.{map, ap, ◌∙◌}
use Rattle.mfotl_model.specs.Tables.{has, has_row, part}
use Rattle.relations.proofs.OperationLaws.{sized_parts, has_projected}
use Rattle.relations.proofs.table.Table.project.Goals as goal

pub from_rows-requires-clause-sized : goal.from_rows-requires-clause-sized
from_rows-requires-clause-sized c =
    rw (c.in_ok-rows.ensures, c.columns.ensures.columns, c.as_slice.ensures, c.rows.ensures.rows)
    (sized_parts c.args.self.now.columns c.args.columns.items c.args.self.now.rows)

pub returns-clause-has : goal.returns-clause-has
unfolding has
returns-clause-has c = λ v.
    rw (c.from_rows.ensures.has v ∙ ap (λ rows. has_row rows (map v c.args.columns.items)) (c.in_ok-rows.ensures
    ∙ (λ j. map (part (c.columns.ensures.columns j) (c.as_slice.ensures j)) (c.rows.ensures.rows j))))
    (has_projected v c.args.self.now.columns c.args.columns.items c.args.self.now.rows c.rows.ensures.is_table
    c.requires.inside)
