use Rattle.std.proofs.Common.{ℕ, List, length}
use Rattle.mfotl_model.specs.declared.value.Value.{Value}
use Rattle.row_times.specs.Groups.{NoneEmpty, times_at}
use Rattle.eval_since.specs.Windows.{Covered, EachHasRows, IsThinned, NotAfter, Placed, Rising}
use Rattle.eval_since.proofs.expiry.expire.Given as goal

abbrev pub invariant-loop-front : goal.invariant-loop-front
invariant-loop-front l = record {
  thin : (q v : List Value) → IsThinned l.hi l.now (times_at l.fn.groups q v) (times_at l.groups q v);
  some : NoneEmpty l.fn.groups → NoneEmpty l.groups;
  placed : Placed l.right l.left l.groups;
  covered : Covered l.dated.items l.groups;
  rising : Rising l.dated.items;
  after : (x : ℕ) → NotAfter x l.fn.dated.items → NotAfter x l.dated.items;
  rows : EachHasRows l.fn.dated.items → EachHasRows l.dated.items;
}

abbrev pub decreases-loop-front : goal.decreases-loop-front
decreases-loop-front l = length l.dated.items
