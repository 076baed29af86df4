use Rattle.mfotl_model.proofs.CountLemmas.{counted_settled, next_unsettled}
use Rattle.mfotl_model.proofs.laws.settled_positions_are_counted.Goals as goal

pub returns-clause-below : goal.returns-clause-below
returns-clause-below c = counted_settled

pub returns-clause-next : goal.returns-clause-next
returns-clause-next c = next_unsettled
