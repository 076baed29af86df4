use Rattle.std.proofs.Common.{◌≡◌, ◌&&◌, List, cond, take}
use Rattle.std.specs.BTreeMap.{is_at}
use Rattle.mfotl_model.specs.{Values.row_cmp, Tables.has_row, Tables.part}
use Rattle.mfotl_model.specs.declared.value.Value.{Value}
use Rattle.row_times.specs.{Groups.NoneEmpty, Groups.times_at, Times.added}
use Rattle.eval_since.proofs.contents.add_rows.Given as goal

abbrev pub invariant-loop-row : goal.invariant-loop-row
invariant-loop-row l = record {
  times : (q v : List Value) → times_at l.groups q v
      ≡ cond (is_at (row_cmp (part l.right l.left v)) q && has_row (take l.row-index l.rows) v)
      (added l.bounded (times_at l.fn.groups q v) l.now) (times_at l.fn.groups q v);
  some : NoneEmpty l.fn.groups → NoneEmpty l.groups;
}
