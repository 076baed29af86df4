-- The law, from that of violations.
use Rattle.monitorable.proofs.TextFinal.{text_final}
use Rattle.monitorable.proofs.laws.text_is_final.Goals as goal

pub returns : goal.returns
returns c = text_final
