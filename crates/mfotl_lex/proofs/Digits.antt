-- Digits only add to a number.
use Rattle.std.proofs.Common.{◌≡◌, ℕ, ◌+◌, ◌-◌, ◌*◌, ◌≤◌, ◌<◌, List, [], ◌∷◌, length, get_or, drop, None, arith}
use Rattle.std.proofs.Common.{drop-cons}
use Rattle.std.proofs.lemmas.Bool.{lt-leb}
use Rattle.mfotl_lex.specs.Numbers.{digits_value, within_limit}

pub grows : (n : ℕ) (bytes : List ℕ) → n ≤ digits_value n bytes
unfolding digits_value
grows n [] = omega arith
grows n (b ∷ bytes) = omega (arith, grows (10 * n + (b - 48)) bytes)

-- a number above the limit, and digits leave it there
pub passes_limit : (limit n digit i : ℕ) (bytes : List ℕ) → i < length bytes → digit ≡ get_or bytes i 0 - 48
    → digits_value n (drop i bytes) ≡ digits_value 0 bytes → limit < 10 * n + digit
    → None ≡ within_limit limit (digits_value 0 bytes)
unfolding digits_value
passes_limit limit n digit i bytes lt e so_far above = grind (arith, drop-cons, lt-leb, grows)
