use Rattle.std.proofs.Common.{rules}
use Rattle.relations.specs.Indexes.{table_of}
use Rattle.mfotl_model.proofs.ColumnLemmas.{joined_apart}
use Rattle.relations.proofs.OperationLaws.{joined_has, sized_pairs}
use Rattle.relations.proofs.table.Table.join_by.Goals as goal

pub from_rows-requires-clause-apart : goal.from_rows-requires-clause-apart
from_rows-requires-clause-apart g c =
    rw (c.in_ok-columns.ensures, c.columns.ensures.columns, c.columns-2.ensures.columns)
    (joined_apart c.args.self.now.columns c.args.index.now.columns
    c.columns.ensures.apart c.columns-2.ensures.apart)

pub from_rows-requires-clause-sized : goal.from_rows-requires-clause-sized
from_rows-requires-clause-sized g c =
    rw (c.in_ok-columns.ensures, c.columns.ensures.columns, c.columns-2.ensures.columns)
    (rw (c.in_ok-rows.ensures.pairs, c.columns-3.ensures.columns, c.rows.ensures.rows)
    (sized_pairs _ _ _ _ c.rows.ensures.is_table.sized))

pub returns-clause-has : goal.returns-clause-has
returns-clause-has g c = λ v.
    joined_has _ c.args.self.now (table_of c.args.index.now) v (search rules) (search rules)
    c.columns-2.ensures.apart c.rows.ensures.is_table.sized c.columns-2.ensures.sized
