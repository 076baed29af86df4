use Rattle.std.proofs.Common.{rules}
use Rattle.relations.proofs.OperationLaws.{chosen_has, some_is}
use Rattle.relations.proofs.table.Table.selected.Goals as goal

pub from_ascending-requires : goal.from_ascending-requires
from_ascending-requires c = record {
  is_table = rw (c.retain_chosen.ensures, c.into_parts-columns.ensures.columns, c.into_parts-columns.ensures.rows)
      (some_is _ _ _ c.into_parts-columns.ensures.is_table);
}

pub returns-clause-has : goal.returns-clause-has
returns-clause-has c = λ v.
    chosen_has _ c.args.self c.args.comparison.now c.args.wanted v (search rules) (search rules)
    c.requires.left c.requires.right
