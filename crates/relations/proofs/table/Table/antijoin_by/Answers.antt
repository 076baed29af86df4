use Rattle.std.proofs.Common.{rules}
use Rattle.relations.proofs.OperationLaws.{some_is, unmatched_has}
use Rattle.relations.specs.Indexes.{table_of}
use Rattle.relations.proofs.table.Table.antijoin_by.Goals as goal

pub from_ascending-requires : goal.from_ascending-requires
from_ascending-requires g c = record {
  is_table = rw (c.in_ok-rows.ensures.kept, c.in_ok-columns.ensures.ok, c.columns.ensures.columns, c.rows.ensures.rows)
      (some_is _ _ _ c.rows.ensures.is_table);
}

pub returns-clause-has : goal.returns-clause-has
returns-clause-has g c = λ v.
    unmatched_has _ c.args.self.now (table_of c.args.index.now) v (search rules) (search rules) c.requires.inside
