use Rattle.std.proofs.Common.{◌≡◌, drop}
use Rattle.until_rows.specs.Entries.{met_by}
use Rattle.until_rows.proofs.meeting.some_meets.Given as goal

abbrev pub invariant-loop-k : goal.invariant-loop-k
invariant-loop-k l = met_by l.interval l.i l.x (drop l.k l.list) ≡ met_by l.interval l.i l.x l.list
