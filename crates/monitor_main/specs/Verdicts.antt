-- What a time-point more adds to the verdicts of a log.
use Rattle.std.specs.Prelude.{ℕ, ◌-◌, List, [], ◌∷◌, ◌++◌, map}
use Rattle.std.specs.List.{range_with_len}
use Rattle.mfotl_model.specs.Counts.{settled_count}
use Rattle.mfotl_model.specs.Formulas.{Form}
use Rattle.mfotl_model.specs.Log.{times}
use Rattle.mfotl_model.specs.VerdictText.{VerdictOf, verdict_at}
use Rattle.mfotl_model.specs.declared.event.TimePoint.{TimePoint}

-- at how many positions the policy is settled
abbrev pub reached : List TimePoint → Form → ℕ
reached log policy = settled_count (times log) policy

-- the verdicts on the positions that are settled only with one time-point more
unfoldable pub news : Form → List TimePoint → TimePoint → List VerdictOf
news policy log point =
    map (verdict_at (log ++ point ∷ []) policy)
    (range_with_len (reached log policy) (reached (log ++ point ∷ []) policy - reached log policy))
