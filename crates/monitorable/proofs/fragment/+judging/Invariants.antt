-- How deep the nodes are that a function still goes down.
use Rattle.std.proofs.Common.{◌+◌, ◌*◌, max}
use Rattle.monitorable.specs.declared.node.Node.{size-Node}
use Rattle.monitorable.proofs.fragment.+judging.Given as goal

abbrev pub decreases-judge : goal.decreases-judge
decreases-judge l = 2 * size-Node l.node.now

abbrev pub decreases-judge_not : goal.decreases-judge_not
decreases-judge_not l = 2 * size-Node l.inner.now + 1

abbrev pub decreases-judge_exists : goal.decreases-judge_exists
decreases-judge_exists l = 2 * size-Node l.inner.now + 1

abbrev pub decreases-judge_and : goal.decreases-judge_and
decreases-judge_and l = 2 * max (size-Node l.left.now) (size-Node l.right.now) + 1

abbrev pub decreases-judge_or : goal.decreases-judge_or
decreases-judge_or l = 2 * max (size-Node l.left.now) (size-Node l.right.now) + 1

abbrev pub decreases-judge_since : goal.decreases-judge_since
decreases-judge_since l = 2 * max (size-Node l.left.now) (size-Node l.right.now) + 1

abbrev pub decreases-judge_until : goal.decreases-judge_until
decreases-judge_until l = 2 * max (size-Node l.left.now) (size-Node l.right.now) + 1
