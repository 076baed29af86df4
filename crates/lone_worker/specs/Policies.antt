-- Which policies a core is one of.
use Rattle.std.specs.Prelude.{◌≡◌, None}
use Rattle.mfotl_model.specs.Formulas.{Form}
use Rattle.monitorable.specs.CoreForms.{CoreForm}
use Rattle.monitorable.specs.Fragment.{Names, frag_fault}
use Rattle.monitorable.specs.Negation.{SettlesWith}
use Rattle.monitorable.specs.SatisfyingRows.{HasViolationsOf}
use Rattle.monitor_state.specs.Verdicts.{IsEvaluable}

-- the policy can be monitored by this core: it is settled where the policy is, and its rows are the violations
pub record IsCoreOf (core : CoreForm) (policy : Form) : Type 0 where
  pub names : Names
  pub accepted : frag_fault names policy ≡ None
  pub settles : SettlesWith core policy
  pub violations : HasViolationsOf core policy
  pub evaluable : IsEvaluable core

-- whatever policy the core is one of
abbrev pub ForEachPolicy : CoreForm → (Form → Type 0) → Type 0
ForEachPolicy core P = (policy : Form) → IsCoreOf core policy → P policy
