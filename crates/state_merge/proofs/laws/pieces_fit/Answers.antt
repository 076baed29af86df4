use Rattle.state_merge.proofs.FitLemmas.{pieces_fit, states_fit}
use Rattle.state_merge.proofs.laws.pieces_fit.Goals as goal

pub returns-clause-states : goal.returns-clause-states
returns-clause-states c = states_fit

pub returns-clause-pieces : goal.returns-clause-pieces
returns-clause-pieces c = pieces_fit
