-- What a worker begins with.
use Rattle.std.specs.Prelude.{ℕ}
use Rattle.mfotl_model.specs.Strategies.{Strategy}
use Rattle.monitorable.specs.CoreForms.{CoreForm}

-- the core, the first strategy and the worker's number
pub record SeedOf : Type 0 where
  pub core : CoreForm
  pub first : Strategy
  pub number : ℕ
