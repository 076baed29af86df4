-- How deep the nodes are that a function still goes down.
use Rattle.std.proofs.Common.{◌+◌, ◌*◌, max}
use Rattle.monitorable.specs.declared.node.Node.{size-Node}
use Rattle.monitorable.proofs.apart.+renaming.Given as goal

abbrev pub decreases-renamed : goal.decreases-renamed
decreases-renamed l = 2 * size-Node l.node.now

abbrev pub decreases-quantified : goal.decreases-quantified
decreases-quantified l = 2 * size-Node l.inner.now + 1

abbrev pub decreases-renamed_both : goal.decreases-renamed_both
decreases-renamed_both l = 2 * max (size-Node l.left.now) (size-Node l.right.now) + 1
