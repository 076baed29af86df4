use Rattle.std.proofs.Common.{◌≡◌, ℕ, List, true, length}
use Rattle.mfotl_model.specs.declared.value.Value.{Value}
use Rattle.relations.specs.KeptRows.{kept_for, list_for}
use Rattle.until_rows.specs.{ByKey.Listed, Rules.NoneEmpty}
use Rattle.eval_until.specs.Keeping.{Covered, CoveredStarts, IsLater, IsThinned, NotAfter, Rising}
use Rattle.eval_until.proofs.expiry.expire.Given as goal

abbrev pub invariant-loop-front : goal.invariant-loop-front
invariant-loop-front l = record {
  rows : (u : List Value) → IsThinned l.next (list_for l.fn.rows.entries u) (list_for l.rows.entries u);
  some : NoneEmpty l.fn.rows.entries → NoneEmpty l.rows.entries;
  listed : Listed l.right l.fn.rows.keyed l.fn.rows.entries → Listed l.right l.rows.keyed l.rows.entries;
  starts : (w : List Value) → IsLater l.negated l.next (kept_for l.fn.starts w)
      (kept_for l.starts w);
  covered : Covered l.queue.items l.rows.entries;
  breaks : l.negated ≡ true → CoveredStarts l.fn.queue.items l.fn.starts
      → CoveredStarts l.queue.items l.starts;
  rising : Rising l.queue.items;
  after : (p : ℕ) → NotAfter p l.fn.queue.items → NotAfter p l.queue.items;
}

abbrev pub decreases-loop-front : goal.decreases-loop-front
decreases-loop-front l = length l.queue.items
