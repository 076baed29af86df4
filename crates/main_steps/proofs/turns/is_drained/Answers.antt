use Rattle.main_steps.proofs.WritingLemmas.{is_over}
use Rattle.main_steps.proofs.turns.is_drained.Goals as goal

pub returns : goal.returns
returns c told = is_over c.args.driver.now c.ended.result told c.ended.ensures.ended
