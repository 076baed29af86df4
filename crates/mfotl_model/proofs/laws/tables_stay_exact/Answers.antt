use Rattle.mfotl_model.proofs.ExactLemmas.{exact_within, exact_behind}
use Rattle.mfotl_model.proofs.laws.tables_stay_exact.Goals as goal

pub returns-clause-within : goal.returns-clause-within
returns-clause-within c = exact_within

pub returns-clause-behind : goal.returns-clause-behind
returns-clause-behind c = exact_behind
