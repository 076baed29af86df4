-- When a core can be evaluated and a time-point may come next, and what the verdict on a position of the log is.
use Rattle.std.specs.Prelude.{◌≡◌, ℕ, ◌<◌, ◌^◌, true, List, [], ◌∷◌, ◌++◌, length}
use Rattle.mfotl_model.specs.Counts.{settled_count}
use Rattle.mfotl_model.specs.FreeVariables.{fv}
use Rattle.mfotl_model.specs.Log.{times}
use Rattle.mfotl_model.specs.Satisfaction.{time_at}
use Rattle.mfotl_model.specs.Tables.{all_apart}
use Rattle.mfotl_model.specs.Times.{NeverFalls}
use Rattle.mfotl_model.specs.declared.event.TimePoint.{TimePoint}
use Rattle.mfotl_model.specs.declared.value.Value.{Value}
use Rattle.monitorable.specs.CoreForms.{CoreForm, meaning}
use Rattle.monitorable.specs.Fragment.{IsMonitorable}
use Rattle.monitorable.specs.Renaming.{binders}
use Rattle.monitorable.specs.SatisfyingRows.{satisfying_rows}
use Rattle.verdict_merge.specs.declared.rows.Verdict.{Verdict}

-- the core can be evaluated: the fragment accepts it, and no variable of it stands for two
pub record IsEvaluable (core : CoreForm) : Type 0 where
  pub fits : IsMonitorable core
  pub apart : all_apart (fv (meaning core) ++ binders core) ≡ true

-- the time-point may follow the log
pub record MayFollow (log : List TimePoint) (point : TimePoint) : Type 0 where
  pub room : length log < 2 ^ 63
  pub rising : NeverFalls (times (log ++ point ∷ []))

-- how many positions of the log are settled
abbrev pub settled_in : CoreForm → List TimePoint → ℕ
settled_in core log = settled_count (times log) (meaning core)

-- the violations at a position: the rows that satisfy the core
unfoldable pub violations_at : CoreForm → List TimePoint → ℕ → List (List Value)
violations_at core log i = satisfying_rows log core i

-- the verdict on a position
abbrev pub verdict_on : CoreForm → List TimePoint → ℕ → Verdict
verdict_on core log i = record { point = i; ts = time_at (times log) i; rows = violations_at core log i }
