use Rattle.monitor_main.proofs.DecideLemmas.{concluded}
use Rattle.monitor_main.proofs.running.conclude.Goals as goal

pub returns-clause-obeys : goal.returns-clause-obeys
returns-clause-obeys g c =
    let h = c.hand_on.ensures in concluded h.kept h.later c.decide-decision.ensures h.handed_on
