use Rattle.std.proofs.Common.{◌+◌, ◌*◌, max}
use Rattle.monitorable.specs.declared.node.Node.{size-Node}
use Rattle.core_arranging.proofs.arranging.+arranged.Given as goal

abbrev pub decreases-arranged : goal.decreases-arranged
decreases-arranged l = 2 * size-Node l.core.now

abbrev pub decreases-arranged_and : goal.decreases-arranged_and
decreases-arranged_and l = 2 * max (size-Node l.left.now) (size-Node l.right.now) + 1

abbrev pub decreases-arranged_or : goal.decreases-arranged_or
decreases-arranged_or l = 2 * max (size-Node l.left.now) (size-Node l.right.now) + 1

abbrev pub decreases-arranged_since : goal.decreases-arranged_since
decreases-arranged_since l = 2 * max (size-Node l.left.now) (size-Node l.right.now) + 1

abbrev pub decreases-arranged_until : goal.decreases-arranged_until
decreases-arranged_until l = 2 * max (size-Node l.left.now) (size-Node l.right.now) + 1

abbrev pub decreases-arranged_not : goal.decreases-arranged_not
decreases-arranged_not l = 2 * size-Node l.inner.now + 1

abbrev pub decreases-arranged_exists : goal.decreases-arranged_exists
decreases-arranged_exists l = 2 * size-Node l.inner.now + 1

abbrev pub decreases-arranged_previous : goal.decreases-arranged_previous
decreases-arranged_previous l = 2 * size-Node l.inner.now + 1

abbrev pub decreases-arranged_next : goal.decreases-arranged_next
decreases-arranged_next l = 2 * size-Node l.inner.now + 1
