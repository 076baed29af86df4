use Rattle.monitor_state.proofs.PartLaw.{part_stands}
use Rattle.monitor_state.proofs.laws.part_stands.Goals as goal

pub returns : goal.returns
returns c = part_stands
