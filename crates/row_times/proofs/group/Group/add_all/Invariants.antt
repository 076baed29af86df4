use Rattle.std.proofs.Common.{◌≡◌, List, cond, take}
use Rattle.mfotl_model.specs.Tables.{has_row}
use Rattle.mfotl_model.specs.declared.value.Value.{Value}
use Rattle.relations.specs.KeptRows.{list_for}
use Rattle.row_times.specs.{Groups.HaveTimes, Times.added}
use Rattle.row_times.proofs.group.Group.add_all.Given as goal

abbrev pub invariant-loop-row : goal.invariant-loop-row
invariant-loop-row l = record {
  times : (v : List Value) → list_for l.self v
      ≡ cond (has_row (take l.row-index l.rows) v) (added l.bounded (list_for l.fn.self v) l.x) (list_for l.fn.self v);
  some : HaveTimes l.fn.self → HaveTimes l.self;
}
