use Rattle.monitor_main.proofs.DemoLemmas.{counts_told, counts_untold, log_told}
use Rattle.monitor_main.proofs.demo.tell_end.Goals as goal

pub returns-in-Ok-clause-comes : goal.returns-in-Ok-clause-comes
returns-in-Ok-clause-comes g c = counts_told _ (rw c.in-Finished.is at c.requires) c.in-Ok.ensures.ok

pub returns-in-Err-clause-comes : goal.returns-in-Err-clause-comes
returns-in-Err-clause-comes g c =
    counts_untold _ _ _ (rw c.in-Finished.is at c.requires) c.in-Err.refusal c.in-Err.ensures.fault
    c.in-Err.ensures.front

pub returns-in-LogEnds-clause-comes : goal.returns-in-LogEnds-clause-comes
returns-in-LogEnds-clause-comes g c =
    rw c.from.ensures (log_told _ c.in-LogEnds.fault (rw c.in-LogEnds.is at c.requires))
