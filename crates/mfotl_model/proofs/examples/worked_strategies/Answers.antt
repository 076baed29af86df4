use Rattle.std.proofs.Common.{refl}
use Rattle.mfotl_model.specs.Matching.{first_value, is_match}
use Rattle.mfotl_model.proofs.examples.worked_strategies.Goals as goal

pub returns-clause-parts_of_values : goal.returns-clause-parts_of_values
unfolding first_value is_match
returns-clause-parts_of_values c = (refl, refl, refl, refl, refl)

pub returns-clause-workers_of_rows : goal.returns-clause-workers_of_rows
unfolding first_value is_match
returns-clause-workers_of_rows c = (refl, refl, refl, refl, refl)

pub returns-clause-slices_of_events : goal.returns-clause-slices_of_events
unfolding first_value is_match
returns-clause-slices_of_events c = refl
