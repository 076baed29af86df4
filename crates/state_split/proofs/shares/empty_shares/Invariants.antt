use Rattle.std.proofs.Common.{◌≡◌, [], map, replicate}
use Rattle.state_split.proofs.shares.empty_shares.Given as goal

abbrev pub invariant-loop : goal.invariant-loop
invariant-loop g l = map (λ s. s.items) l.shares.items ≡ replicate l.counter []
