use Rattle.std.proofs.Common.{◌-◌, length, []}
use Rattle.log_reader.specs.Cursors.{Leads}
use Rattle.log_reader.proofs.cursor.Cursor.advance.Given as goal

abbrev pub invariant-loop-self : goal.invariant-loop-self
invariant-loop-self l =
    Leads l.sig l.limits l.look.from l.look.bytes.now l.look.ended l.fn.self.at l.fn.self.partial []
    l.self.at l.self.partial

abbrev pub decreases-loop-self : goal.decreases-loop-self
decreases-loop-self l = length l.look.bytes.now - l.self.at
