-- The numbers that Integers write.
use Rattle.std.specs.Prelude.{ℕ, ◌+◌, ◌-◌, ◌*◌, Bool, List, [], ◌∷◌, Option, Some, None, ℤ, pos, negsuc, neg_ℤ}
use Rattle.std.specs.Prelude.{nat_lt, nat_le, ◌==◌, if◌then◌else◌}
use Rattle.mfotl_lex.specs.Bytes.{minus}
use Rattle.mfotl_lex.specs.Limits.{max_magnitude}

-- the number that the digits write, when they follow those of n
unfoldable pub digits_value : ℕ → List ℕ → ℕ
digits_value n [] = n
digits_value n (b ∷ bytes) = digits_value (10 * n + (b - 48)) bytes

-- the number that an optional `-` and digits write
unfoldable pub integer_value : List ℕ → ℤ
integer_value [] = pos 0
integer_value (b ∷ bytes) =
    if b == minus then neg_ℤ (pos (digits_value 0 bytes)) else pos (digits_value 0 (b ∷ bytes))

-- at least -2^63 and below 2^63
abbrev pub is_int64 : ℤ → Bool
is_int64 (pos n) = nat_lt n max_magnitude
is_int64 (negsuc n) = nat_lt n max_magnitude

-- a number of 64 bits, or none
abbrev pub int64_of : ℤ → Option ℤ
int64_of z = if is_int64 z then Some z else None

-- a number no greater than the limit, or none
abbrev pub within_limit : ℕ → ℕ → Option ℕ
within_limit limit n = if nat_le n limit then Some n else None
