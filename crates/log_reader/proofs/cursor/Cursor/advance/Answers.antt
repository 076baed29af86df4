use Rattle.log_reader.proofs.GroupLemmas.{go_on}
use Rattle.log_reader.proofs.cursor.Cursor.advance.Goals as goal

pub loop-self-preserved : goal.loop-self-preserved
loop-self-preserved c =
    let took = rw c.in-Ok-Took.field-0-is at c.in-Ok-Took.ensures in
    go_on (go_on (go_on c.loop-self.invariant took.0)
    (c.take_stamp.ensures.leads c.args.sig.now c.args.limits.now))
    (c.in_ok-take_groups-in-Ok-Took.ensures.leads c.args.sig.now)
