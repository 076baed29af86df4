use Rattle.monitor_state.proofs.LawProofs.{tables_are_violations}
use Rattle.monitor_state.proofs.laws.tables_are_violations.Goals as goal

pub returns : goal.returns
returns c = tables_are_violations
