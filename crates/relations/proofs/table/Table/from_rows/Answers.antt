use Rattle.std.proofs.Common.{map, ◌∙◌}
use Rattle.mfotl_model.specs.Tables.{has}
use Rattle.relations.proofs.AscendingRows.{has_ascending, made_is}
use Rattle.relations.proofs.table.Table.from_rows.Goals as goal

pub invariant_of-result : goal.invariant_of-result
invariant_of-result c =
    made_is c.args.columns.items c.args.rows.items c.into_vec.result.items c.requires.apart c.requires.sized
    (c.into_vec.ensures ∙ c.in_order.ensures)

pub returns-clause-has : goal.returns-clause-has
unfolding has
returns-clause-has c = λ v.
    rw (c.into_vec.ensures, c.in_order.ensures) (has_ascending c.args.rows.items (map v c.args.columns.items))
