use Rattle.std.proofs.Common.{rules}
use Rattle.relations.proofs.OperationLaws.{some_is, unmatched_has}
use Rattle.relations.proofs.table.Table.antijoin.Goals as goal

pub from_ascending-requires : goal.from_ascending-requires
from_ascending-requires c = record {
  is_table = rw (c.in_ok-rows.ensures, c.in_ok-columns.ensures.ok, c.columns.ensures.columns, c.rows.ensures.rows)
      (some_is _ _ _ c.rows.ensures.is_table);
}

pub returns-clause-has : goal.returns-clause-has
returns-clause-has c = λ v.
    unmatched_has _ c.args.self.now c.args.other.now v (search rules) (search rules) c.requires.inside
