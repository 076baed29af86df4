use Rattle.std.proofs.Common.{take}
use Rattle.row_times.proofs.GroupLemmas.{AreGone, AreKept}
use Rattle.row_times.proofs.groups.Groups.move_groups.Given as goal

abbrev pub invariant-loop-part : goal.invariant-loop-part
invariant-loop-part l = record {
  gone : AreGone (take l.part-index l.parts) l.fn.self l.self-inside.groups.entries;
  kept : AreKept (take l.part-index l.parts) l.fn.self l.kept.entries;
}
