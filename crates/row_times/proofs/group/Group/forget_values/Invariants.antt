use Rattle.std.proofs.Common.{◌≡◌, List, cond}
use Rattle.mfotl_model.specs.Tables.{has_row}
use Rattle.mfotl_model.specs.declared.value.Value.{Value}
use Rattle.relations.specs.KeptRows.{list_for}
use Rattle.row_times.specs.{Groups.HaveTimes, PackedRows.alone, Times.recent}
use Rattle.row_times.proofs.group.Group.forget_values.Given as goal

-- once what is left is forgotten
abbrev pub invariant-loop-value : goal.invariant-loop-value
invariant-loop-value l = record {
  times : (v : List Value) →
      cond (has_row (alone l.value-iterator.rest.items) v) (recent l.hi l.now (list_for l.self v)) (list_for l.self v)
      ≡ cond (has_row (alone l.fn.values.items) v) (recent l.hi l.now (list_for l.fn.self v)) (list_for l.fn.self v);
  some : HaveTimes l.fn.self → HaveTimes l.self;
}
