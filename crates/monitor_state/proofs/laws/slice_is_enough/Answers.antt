use Rattle.monitor_state.proofs.LawProofs.{slice_is_enough}
use Rattle.monitor_state.proofs.laws.slice_is_enough.Goals as goal

pub returns : goal.returns
returns c = slice_is_enough
