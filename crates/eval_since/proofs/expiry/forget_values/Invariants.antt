use Rattle.std.proofs.Common.{◌≡◌, ◌&&◌, List, cond}
use Rattle.std.specs.BTreeMap.{is_at}
use Rattle.mfotl_model.specs.{Values.row_cmp, Tables.has_row, Tables.part}
use Rattle.mfotl_model.specs.declared.value.Value.{Value}
use Rattle.row_times.specs.{Groups.NoneEmpty, Groups.times_at, PackedRows.alone, Times.recent}
use Rattle.eval_since.proofs.expiry.forget_values.Given as goal

-- once what is left is forgotten
abbrev pub invariant-loop-value : goal.invariant-loop-value
invariant-loop-value l = record {
  times : (q v : List Value) →
      cond (is_at (row_cmp (part l.right l.left v)) q && has_row (alone l.value-iterator.rest.items) v)
      (recent l.hi l.now (times_at l.groups q v)) (times_at l.groups q v)
      ≡ cond (is_at (row_cmp (part l.right l.left v)) q && has_row (alone l.fn.values.items) v)
      (recent l.hi l.now (times_at l.fn.groups q v)) (times_at l.fn.groups q v);
  some : NoneEmpty l.fn.groups → NoneEmpty l.groups;
}
