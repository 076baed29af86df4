use Rattle.std.proofs.Common.{refl}
use Rattle.mfotl_model.proofs.examples.worked_values.Goals as goal

pub returns-clause-values_in_order : goal.returns-clause-values_in_order
returns-clause-values_in_order c = refl

pub returns-clause-rows_in_order : goal.returns-clause-rows_in_order
returns-clause-rows_in_order c = refl

pub returns-clause-events_in_order : goal.returns-clause-events_in_order
returns-clause-events_in_order c = refl

pub returns-clause-values_compare : goal.returns-clause-values_compare
returns-clause-values_compare c = (refl, refl, refl, refl, refl, refl)

pub returns-clause-ends_belong_to_intervals : goal.returns-clause-ends_belong_to_intervals
returns-clause-ends_belong_to_intervals c = (refl, refl)
