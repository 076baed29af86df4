use Rattle.std.proofs.Common.{◌-◌, length}
use Rattle.log_reader.specs.Groups.{LeadsOn}
use Rattle.log_reader.proofs.cursor.Cursor.take_groups.Given as goal

abbrev pub invariant-loop-behind : goal.invariant-loop-behind
invariant-loop-behind l =
    LeadsOn l.limits l.look.from l.look.bytes.now l.look.ended l.fn.self.at l.fn.self.partial l.self.at l.self.partial

abbrev pub decreases-loop-behind : goal.decreases-loop-behind
decreases-loop-behind l = length l.look.bytes.now - l.self.at
