use Rattle.mon_outside.proofs.Reading.{gave_all}
use Rattle.mon_outside.proofs.loading.read_through.Goals as goal

pub returns-then-count-eq0-clause-whole : goal.returns-then-count-eq0-clause-whole
returns-then-count-eq0-clause-whole g c =
    gave_all _ _ _ _ _ _ _ c.in-Ok.count c.reads.invariant.gave c.in-Ok.ensures.moves
    c.in-Ok.ensures.appended c.if-count-eq0.true
