use Rattle.std.proofs.Common.{rules}
use Rattle.relations.proofs.OperationLaws.{some_is, unmatched_has}
use Rattle.relations.proofs.table.Table.antijoined.Goals as goal

pub from_ascending-requires : goal.from_ascending-requires
from_ascending-requires c = record {
  is_table = rw (c.in_ok-kept.ensures, c.into_parts-columns.ensures.columns, c.into_parts-columns.ensures.rows)
      (some_is _ _ _ c.into_parts-columns.ensures.is_table);
}

pub returns-clause-has : goal.returns-clause-has
returns-clause-has c = λ v.
    unmatched_has _ c.args.self c.args.other.now v (search rules) (search rules) c.requires.inside
