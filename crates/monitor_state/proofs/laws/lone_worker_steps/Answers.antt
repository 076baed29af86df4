use Rattle.monitor_state.proofs.LawProofs.{lone_worker_steps}
use Rattle.monitor_state.proofs.laws.lone_worker_steps.Goals as goal

pub returns : goal.returns
returns c = lone_worker_steps
