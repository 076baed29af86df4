use Rattle.std.proofs.Common.{refl}
use Rattle.mfotl_model.specs.Satisfaction.{next, previous, sat, since, until}
use Rattle.mfotl_model.proofs.examples.worked_operators.Goals as goal

pub returns-clause-boolean_operators : goal.returns-clause-boolean_operators
unfolding next previous sat since until
returns-clause-boolean_operators c = (refl, refl, refl, refl, refl)

pub returns-clause-quantifiers : goal.returns-clause-quantifiers
unfolding next previous sat since until
returns-clause-quantifiers c = (refl, refl, refl, refl)

pub returns-clause-atoms_and_comparisons : goal.returns-clause-atoms_and_comparisons
unfolding next previous sat since until
returns-clause-atoms_and_comparisons c = refl

pub returns-clause-previous_and_next : goal.returns-clause-previous_and_next
unfolding next previous sat since until
returns-clause-previous_and_next c = (refl, refl, refl, refl)

pub returns-clause-past_operators : goal.returns-clause-past_operators
unfolding next previous sat since until
returns-clause-past_operators c = (refl, refl, refl, refl, refl, refl, refl)

pub returns-clause-future_operators : goal.returns-clause-future_operators
unfolding next previous sat since until
returns-clause-future_operators c = (refl, refl, refl, refl, refl, refl, refl)
