use Rattle.monitor_state.proofs.LogLemmas.{policy_violations}
use Rattle.monitor_state.proofs.laws.policy_violations.Goals as goal

pub returns : goal.returns
returns c = policy_violations
