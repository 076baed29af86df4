use Rattle.std.proofs.Common.{take}
use Rattle.row_times.proofs.GroupLemmas.{AreGone}
use Rattle.row_times.proofs.groups.Groups.drop_groups.Given as goal

abbrev pub invariant-loop-part : goal.invariant-loop-part
invariant-loop-part l = AreGone (take l.part-index l.parts) l.fn.self l.self-inside.groups.entries
