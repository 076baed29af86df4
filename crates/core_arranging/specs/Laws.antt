-- What is always true of a core as it is evaluated.
use Rattle.std.specs.Prelude.{◌≡◌, ℕ, List}
use Rattle.mfotl_model.specs.FreeVariables.{fv}
use Rattle.mfotl_model.specs.Satisfaction.{Valuation, sat}
use Rattle.mfotl_model.specs.Settled.{settled}
use Rattle.mfotl_model.specs.declared.event.TimePoint.{TimePoint}
use Rattle.mfotl_model.specs.declared.value.Value.{Value}
use Rattle.monitorable.specs.CoreForms.{CoreForm, meaning}
use Rattle.core_arranging.specs.Arranging.{posed}

-- it holds where the core holds, is settled where the core is, and has the core's columns in their order
pub record PosedMeansTheSame : Type 0 where
  pub holds : (log : List TimePoint) (dom : List Value) (v : Valuation) (i : ℕ) (f : CoreForm)
      → sat log dom v i (meaning (posed f)) ≡ sat log dom v i (meaning f)
  pub settles : (times : List ℕ) (i : ℕ) (f : CoreForm)
      → settled times (meaning (posed f)) i ≡ settled times (meaning f) i
  pub columns : (f : CoreForm) → fv (meaning (posed f)) ≡ fv (meaning f)
