use Rattle.std.proofs.Common.{◌≡◌, ℕ, get_or, length}
use Rattle.rescale_core.proofs.outstanding.grow_counts.Given as goal

abbrev pub invariant-loop : goal.invariant-loop
invariant-loop l = record {
  len : length l.counts.items ≡ l.counter;
  same : (q : ℕ) → get_or l.counts.items q 0 ≡ get_or l.fn.counts.items q 0;
}
