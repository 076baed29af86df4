-- That a policy's core, and a strategy over its variables, are as a machine asks for.
use Rattle.std.proofs.Common.{◌≡◌, ◌∙◌, ap, sym, true, List, length, ◌++◌}
use Rattle.std.specs.List.{range_with_len}
use Rattle.mfotl_model.specs.{Formulas.Form, FreeVariables.fv, Strategies.Strategy, Tables.all_apart}
use Rattle.mfotl_model.specs.declared.policy.Var.{Var}
use Rattle.mfotl_parse.specs.WellSorted.{IsWellSorted}
use Rattle.mfotl_sig.specs.Preds.{PredOf}
use Rattle.monitorable.specs.{CoreForms.CoreForm, CoreForms.meaning, Fragment.IsMonitorable, Renaming.binders}
use Rattle.rescale_worker.specs.Workers.{IsFor}
use Rattle.slice_strategy.specs.Entries.{HasWorkers}

-- the free variables of the core of a policy whose variables are in their columns
pub columns : (sig : List PredOf) (vars : List Var) (policy : Form) (core : CoreForm) → IsWellSorted sig vars policy
    → fv (meaning core) ≡ fv policy → fv (meaning core) ≡ range_with_len 0 (length vars)
columns sig vars policy core sorted same = same ∙ sorted.free

-- a strategy with an entry for each variable
pub strategy_fits : (vars : List Var) (core : CoreForm) (s : Strategy) → IsMonitorable core
    → all_apart (fv (meaning core) ++ binders core) ≡ true → fv (meaning core) ≡ range_with_len 0 (length vars)
    → length s ≡ length vars → HasWorkers s → IsFor core s
strategy_fits vars core s fits apart variables sized workers = record {
  evaluable = record { fits = fits; apart = apart };
  variables = variables ∙ ap (range_with_len 0) (sym sized);
  workers = workers;
}
