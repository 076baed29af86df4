use Rattle.std.proofs.Common.{◌≡◌, ◌<◌, List, [], length}
use Rattle.std.specs.{List.AllByRecursion, List.Sorted.IsStrictlyIncreasing}
use Rattle.mfotl_model.specs.declared.value.Value.{Value}
use Rattle.row_times.specs.{Groups.NoneEmpty, Groups.times_at, KeptTimes.times_kept}
use Rattle.eval_since.specs.{Recalled.put_times}
use Rattle.row_times.specs.declared.kept_row.KeptRow.{KeptRow}
use Rattle.eval_since.proofs.rebuild.grouped.Given as goal

-- what was put, and what is left to put
abbrev pub invariant-loop-kept : goal.invariant-loop-kept
invariant-loop-kept l = record {
  ascend : AllByRecursion (λ (k : KeptRow). IsStrictlyIncreasing k.times.items) l.kept-iterator.rest.items;
  put : (q v : List Value) → put_times l.right l.left (times_kept l.kept-iterator.rest.items) q v
      (times_at l.groups q v)
      ≡ put_times l.right l.left (times_kept l.fn.rows.items) q v [];
  some : AllByRecursion (λ (k : KeptRow). 0 < length k.times.items) l.fn.rows.items
      → AllByRecursion (λ (k : KeptRow). 0 < length k.times.items) l.kept-iterator.rest.items × NoneEmpty l.groups;
}
