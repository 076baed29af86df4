use Rattle.std.proofs.Common.{◌≡◌, List, cond}
use Rattle.mfotl_model.specs.Tables.{has_row}
use Rattle.mfotl_model.specs.declared.value.Value.{Value}
use Rattle.relations.specs.KeptRows.{list_for}
use Rattle.row_times.specs.{Groups.HaveTimes, Times.recent}
use Rattle.row_times.proofs.group.Group.forget_rows.Given as goal

-- once what is left is forgotten
abbrev pub invariant-loop-row : goal.invariant-loop-row
invariant-loop-row l = record {
  times : (v : List Value) →
      cond (has_row l.row-iterator.rest.items v) (recent l.hi l.now (list_for l.self v)) (list_for l.self v)
      ≡ cond (has_row l.fn.rows.items v) (recent l.hi l.now (list_for l.fn.self v)) (list_for l.fn.self v);
  some : HaveTimes l.fn.self → HaveTimes l.self;
}
