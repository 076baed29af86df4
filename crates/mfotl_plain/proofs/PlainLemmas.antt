-- What the slow programs need of lists of timestamps and of truth values.
use Rattle.std.proofs.Common.{◌≡◌, ℕ, Bool, not, List, [], ◌∷◌, length, map, refl, ap}
use Rattle.std.proofs.lemmas.List.{length-map}
use Rattle.mfotl_model.specs.declared.event.TimePoint.{TimePoint}
use Rattle.mfotl_model.specs.Log.{times}

-- there are as many timestamps as time-points
pub times_len : (points : List TimePoint) → length (times points) ≡ length points
times_len points = length-map points (λ p. p.ts)

-- negated one by one
pub negated : (p : ℕ → Bool) (xs : List ℕ) → map not (map p xs) ≡ map (λ j. not (p j)) xs
negated p [] = refl
negated p (x ∷ xs) = ap (λ rest. not (p x) ∷ rest) (negated p xs)
