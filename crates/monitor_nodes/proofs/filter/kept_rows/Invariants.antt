use Rattle.std.proofs.Common.{◌++◌}
use Rattle.monitor_nodes.specs.FilterFeeding.{Sifts}
use Rattle.relations.specs.Tables.{IsTable}
use Rattle.monitor_nodes.proofs.filter.kept_rows.Given as goal

abbrev pub invariant-loop-row : goal.invariant-loop-row
invariant-loop-row l = record {
  is_table : IsTable l.columns (l.kept.items ++ l.row-iterator.rest.items);
  sifts : Sifts l.window l.negated l.columns l.yielded l.kept.items;
}
