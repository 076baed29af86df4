use Rattle.std.proofs.Common.{◌<◌, length}
use Rattle.log_reader.proofs.GroupLemmas.{SoFar}
use Rattle.log_reader.proofs.groups.row_at.Given as goal

abbrev pub invariant-loop-sort : goal.invariant-loop-sort
invariant-loop-sort l =
    SoFar l.look.from l.look.bytes.now l.look.ended l.sorts l.start l.args l.due l.behind × (0 < length l.args)

abbrev pub decreases-loop-sort : goal.decreases-loop-sort
decreases-loop-sort l = length l.due
