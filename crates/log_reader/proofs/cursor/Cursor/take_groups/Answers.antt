use Rattle.log_reader.proofs.GroupLemmas.{lead_further}
use Rattle.log_reader.proofs.cursor.Cursor.take_groups.Goals as goal

pub loop-behind-preserved : goal.loop-behind-preserved
loop-behind-preserved c =
    let taken = rw c.in-Some.is at c.in_ok-behind.ensures in
    lead_further _ _ _ _ _ _ _ _ _ _ c.loop-behind.invariant taken.0
