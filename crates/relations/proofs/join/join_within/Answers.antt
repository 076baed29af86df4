use Rattle.std.proofs.Common.{rules}
use Rattle.mfotl_model.proofs.ColumnLemmas.{joined_apart}
use Rattle.relations.proofs.OperationLaws.{joined_has, sized_joined}
use Rattle.relations.proofs.join.join_within.Goals as goal

pub from_rows-requires-clause-apart : goal.from_rows-requires-clause-apart
from_rows-requires-clause-apart g c =
    rw (c.in_ok-columns.ensures, c.columns.ensures.columns, c.columns-2.ensures.columns)
    (joined_apart c.args.first.now.columns c.args.second.now.columns
    c.columns.ensures.apart c.columns-2.ensures.apart)

pub from_rows-requires-clause-sized : goal.from_rows-requires-clause-sized
from_rows-requires-clause-sized g c =
    rw (c.in_ok-columns.ensures, c.columns.ensures.columns, c.columns-2.ensures.columns)
    (sized_joined c.args.first.now c.args.second.now c.in_ok-rows.rows.items c.in_ok-rows.ensures
    c.rows.ensures.is_table.sized)

pub returns-clause-has : goal.returns-clause-has
returns-clause-has g c = λ v.
    joined_has _ c.args.first.now c.args.second.now v (search rules) (search rules)
    c.columns-2.ensures.apart c.rows.ensures.is_table.sized c.rows-2.ensures.is_table.sized
