use Rattle.std.proofs.Common.{refl}
use Rattle.std.specs.Fmt.{digits}
use Rattle.mfotl_model.specs.{ActiveDomain.constants, FreeVariables.fv}
use Rattle.mfotl_model.specs.Satisfaction.{next, previous, sat, since, until}
use Rattle.mfotl_model.specs.Settled.{next_settled, previous_settled, settled, since_settled, until_settled}
use Rattle.mfotl_model.proofs.examples.worked_texts.Goals as goal

pub returns-clause-within_seven_days : goal.returns-clause-within_seven_days
unfolding constants digits fv sat settled since since_settled
returns-clause-within_seven_days c = refl

pub returns-clause-verdict_waits_for_the_bound : goal.returns-clause-verdict_waits_for_the_bound
unfolding constants digits fv sat settled until until_settled
returns-clause-verdict_waits_for_the_bound c = refl

pub returns-clause-equal_timestamps_stay_apart : goal.returns-clause-equal_timestamps_stay_apart
unfolding constants digits fv sat settled previous previous_settled
returns-clause-equal_timestamps_stay_apart c = refl

pub returns-clause-rows_ascend_in_a_line : goal.returns-clause-rows_ascend_in_a_line
unfolding constants digits fv sat settled
returns-clause-rows_ascend_in_a_line c = refl

pub returns-clause-since_is_cut_off : goal.returns-clause-since_is_cut_off
unfolding constants digits fv sat settled since since_settled
returns-clause-since_is_cut_off c = refl

pub returns-clause-next_time_point_counts : goal.returns-clause-next_time_point_counts
unfolding constants digits fv sat settled next next_settled
returns-clause-next_time_point_counts c = refl

pub returns-clause-until_is_broken : goal.returns-clause-until_is_broken
unfolding constants digits fv sat settled until until_settled
returns-clause-until_is_broken c = refl

pub returns-clause-constants_are_in_the_domain : goal.returns-clause-constants_are_in_the_domain
unfolding constants digits fv sat settled
returns-clause-constants_are_in_the_domain c = refl

pub returns-clause-columns_in_order_of_occurrence : goal.returns-clause-columns_in_order_of_occurrence
unfolding constants digits fv sat settled
returns-clause-columns_in_order_of_occurrence c = refl

pub returns-clause-no_columns : goal.returns-clause-no_columns
unfolding constants digits fv sat settled
returns-clause-no_columns c = refl

pub returns-clause-unbounded_future_waits_for_ever : goal.returns-clause-unbounded_future_waits_for_ever
unfolding settled until_settled
returns-clause-unbounded_future_waits_for_ever c = refl
