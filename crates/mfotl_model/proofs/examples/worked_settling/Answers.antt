use Rattle.std.proofs.Common.{refl}
use Rattle.mfotl_model.specs.Settled.{next_settled, previous_settled, settled, since_settled, until_settled}
use Rattle.mfotl_model.proofs.examples.worked_settling.Goals as goal

pub returns-clause-once_reached : goal.returns-clause-once_reached
unfolding next_settled previous_settled settled since_settled until_settled
returns-clause-once_reached c = (refl, refl)

pub returns-clause-with_both_operands : goal.returns-clause-with_both_operands
unfolding next_settled previous_settled settled since_settled until_settled
returns-clause-with_both_operands c = (refl, refl, refl, refl, refl, refl, refl)

pub returns-clause-with_the_operand : goal.returns-clause-with_the_operand
unfolding next_settled previous_settled settled since_settled until_settled
returns-clause-with_the_operand c = (refl, refl, refl, refl, refl, refl, refl)

pub returns-clause-past_the_bound : goal.returns-clause-past_the_bound
unfolding next_settled previous_settled settled since_settled until_settled
returns-clause-past_the_bound c = (refl, refl, refl, refl, refl)

pub returns-clause-next_to_the_operand : goal.returns-clause-next_to_the_operand
unfolding next_settled previous_settled settled since_settled until_settled
returns-clause-next_to_the_operand c = (refl, refl, refl, refl, refl, refl, refl, refl)

pub returns-clause-bounds_add_up : goal.returns-clause-bounds_add_up
unfolding next_settled previous_settled settled since_settled until_settled
returns-clause-bounds_add_up c = (refl, refl)
