-- The timestamps of what is read of a log never fall.
use Rattle.std.proofs.Common.{◌≡◌, ℕ, zero, suc, ◌≤◌, ◌<◌, Bool, cond, nat_lt, List, [], ◌∷◌, length, Option, Some}
use Rattle.std.proofs.Common.{None, arith}
use Rattle.std.specs.Prelude.{option_and_then}
use Rattle.std.proofs.lemmas.Bool.{ltb-false}
use Rattle.mfotl_model.specs.{Log.times, Satisfaction.time_at, Times.NeverFalls}
use Rattle.mfotl_model.specs.declared.event.TimePoint.{TimePoint}
use Rattle.mfotl_sig.specs.Preds.{PredOf}
use Rattle.log_reader.specs.{Grammar.PointText, Readings.reading, Rules.log_value, Rules.point_value}
use Rattle.log_reader.specs.declared.limits.Limits.{Limits}
use Rattle.log_reader.proofs.CompletedLaws.{all_completed}

-- none lies below the one before it, the first not below the least
abbrev Rises : ℕ → List ℕ → Type 0
Rises least [] = Unit {0}
Rises least (t ∷ ts) = (least ≤ t) × Rises t ts

lowest : (least : ℕ) (ts : List ℕ) → Rises least ts → (j : ℕ) → j < length ts → least ≤ time_at ts j
lowest least [] rises j within = absurd (omega arith)
lowest least (t ∷ ts) rises zero within = rises.0
lowest least (t ∷ ts) rises (suc j) within =
    let here : least ≤ t = rises.0 in
    let later : t ≤ time_at ts j = lowest t ts rises.1 j (omega arith) in
    omega arith

rising : (least : ℕ) (ts : List ℕ) → Rises least ts → NeverFalls ts
rising least [] rises i j before within = absurd (omega arith)
rising least (t ∷ ts) rises zero zero before within = omega arith
rising least (t ∷ ts) rises zero (suc j) before within = lowest t ts rises.1 j (omega arith)
rising least (t ∷ ts) rises (suc i) zero before within = absurd (omega arith)
rising least (t ∷ ts) rises (suc i) (suc j) before within = rising t ts rises.1 i j (omega arith) (omega arith)

-- of a time-point and those behind it
rises_by : (least : ℕ) (points : List TimePoint) (point : TimePoint) (b : Bool) (others : Option (List TimePoint))
    → nat_lt point.ts least ≡ b → ((later : List TimePoint) → others ≡ Some later → Rises point.ts (times later))
    → option_and_then (λ later. Some (point ∷ later)) (cond b None others) ≡ Some points → Rises least (times points)
rises_by least points point b others is rest e = grind (arith, ltb-false)

module _ (sig : List PredOf) (limits : Limits) where
  value_by : (least room : ℕ) (log : List PointText) (points : List TimePoint) (o : Option TimePoint)
      → ((time : ℕ) (later : List TimePoint) → log_value sig limits time room log ≡ Some later
      → Rises time (times later)) → option_and_then (λ point. option_and_then (λ later. Some (point ∷ later))
      (cond (nat_lt point.ts least) None (log_value sig limits point.ts room log))) o
      ≡ Some points → Rises least (times points)
  value_by least room log points o rest e = grind (arith, rises_by)

  -- the rules let no timestamp fall
  value_rises : (least room : ℕ) (log : List PointText) (points : List TimePoint)
      → log_value sig limits least room log ≡ Some points → Rises least (times points)
  unfolding log_value
  value_rises least room [] points e = let none : points ≡ [] = cc in rw none tt
  value_rises least zero (p ∷ log) points e = absurd cc
  value_rises least (suc room) (p ∷ log) points e =
      value_by least room log points (point_value sig limits p)
      (λ time later is. value_rises time room log later is) e

-- the time-points of a reading never fall in their timestamps
pub read_never_falls : (sig : List PredOf) (limits : Limits) (bytes : List ℕ) (ended : Bool)
    → NeverFalls (times (reading sig limits bytes ended).points)
read_never_falls sig limits bytes ended =
    let whole = (all_completed sig limits bytes ended).completes in
    rising 0 (times (reading sig limits bytes ended).points)
    (value_rises sig limits 0 limits.points whole.log (reading sig limits bytes ended).points whole.value)
