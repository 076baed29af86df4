use Rattle.lone_worker.proofs.AloneLemmas.{takes_none}
use Rattle.lone_worker.proofs.lone_worker.LoneWorker.new.Goals as goal

pub returns : goal.returns
returns c = takes_none c.requires c.in_ok-monitor.ensures.core c.in_ok-monitor.ensures.begins c.new-2.ensures
