use Rattle.std.proofs.Common.{◌≡◌, length}
use Rattle.hub_threads.proofs.bells.Bells.new.Given as goal

-- there is a bell for each number that was counted
abbrev pub invariant-loop : goal.invariant-loop
invariant-loop l = length l.threads.items ≡ l.counter
