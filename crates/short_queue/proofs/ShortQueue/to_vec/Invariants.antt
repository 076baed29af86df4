use Rattle.std.proofs.Common.{◌≡◌, take}
use Rattle.short_queue.proofs.ShortQueue.to_vec.Given as goal

abbrev pub invariant-loop-place : goal.invariant-loop-place
invariant-loop-place g l = l.copy.items ≡ take l.place l.self
