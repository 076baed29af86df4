-- The verdicts on the first positions of a log, and what stops their lines.
use Rattle.std.specs.Prelude.{◌≤◌, ℕ, List, Option, map}
use Rattle.std.specs.List.{range_with_len}
use Rattle.mon_outside.specs.Causes.{Rose}
use Rattle.mon_outside.specs.Sink.{AppendsFront}
use Rattle.mfotl_model.specs.VerdictText.{VerdictOf}
use Rattle.mfotl_model.specs.declared.event.TimePoint.{TimePoint}
use Rattle.monitorable.specs.CoreForms.{CoreForm}
use Rattle.monitor_state.specs.Verdicts.{settled_in, verdict_on}
use Rattle.verdict_merge.specs.declared.rows.Verdict.{Verdict}
use Rattle.lone_worker.specs.Texts.{lines}
use Rattle.lone_worker.specs.declared.stop.Stop.{Stop}
use Rattle.lone_worker.specs.declared.stop.Stop.TheVariants.{Log, Read, Sink, Memory}

-- a verdict as its line is made of it
abbrev pub seen : Verdict → VerdictOf
seen v = record { point = v.point; ts = v.ts; rows = v.rows }

-- the verdicts on the first positions of a log
abbrev pub first_verdicts : CoreForm → List TimePoint → ℕ → List VerdictOf
first_verdicts core points n = map (λ i. seen (verdict_on core points i)) (range_with_len 0 n)

-- the verdicts on all positions that are settled
abbrev pub all_verdicts : CoreForm → List TimePoint → List VerdictOf
all_verdicts core points = first_verdicts core points (settled_in core points)

-- what was written since `start` is a front of the lines of the first verdicts
pub record Falls (core : CoreForm) (points : List TimePoint) (start now : Option (List ℕ)) : Type 0 where
  pub count : ℕ
  pub settled : count ≤ settled_in core points
  pub front : AppendsFront start now (lines (first_verdicts core points count))

-- the output failed, which shows in its count, or memory was refused
abbrev pub IsOutputStop : ℕ → ℕ → Stop → Type 0
IsOutputStop before now (Log fault) = ⊥
IsOutputStop before now Read = ⊥
IsOutputStop before now Sink = Rose before now
IsOutputStop before now Memory = Unit {0}
