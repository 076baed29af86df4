use Rattle.std.proofs.Common.{◌≡◌, map, replicate}
use Rattle.state_split.proofs.shares.copies.Given as goal

abbrev pub invariant-loop : goal.invariant-loop
invariant-loop g l = map (λ c. c.items) l.copies.items ≡ replicate l.counter l.list
