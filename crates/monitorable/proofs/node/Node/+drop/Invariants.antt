-- What is left to drop is no deeper than what was given.
use Rattle.std.proofs.Common.{◌≤◌}
use Rattle.monitorable.specs.declared.node.Node.{size-Node}
use Rattle.monitorable.proofs.node.Node.+drop.Given as goal

abbrev pub invariant-loop-self : goal.invariant-loop-self
invariant-loop-self l = size-Node l.self ≤ size-Node l.initial.self
