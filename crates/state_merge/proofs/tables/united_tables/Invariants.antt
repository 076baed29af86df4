use Rattle.std.proofs.Common.{List, ◌++◌}
use Rattle.mfotl_model.specs.Tables.{TableOf}
use Rattle.monitor_state.specs.StateUnions.{TablesUnion}
use Rattle.state_merge.specs.Fits.{TablesFit}
use Rattle.state_merge.proofs.tables.united_tables.Given as goal

-- what is united of the rest goes behind what was united
abbrev pub invariant-loop-table : goal.invariant-loop-table
invariant-loop-table l = record {
  fit : TablesFit l.table-iterator.rest.items l.others.rest.items;
  done : (zs : List TableOf) → TablesUnion l.table-iterator.rest.items l.others.rest.items zs
      → TablesUnion l.fn.first.items l.fn.second.items (l.tables.items ++ zs);
}
