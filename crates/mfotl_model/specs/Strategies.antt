-- Strategies: into which parts the values of each free variable are cut, and which worker each row
-- belongs to.
use Rattle.std.specs.Prelude.{ℕ, ◌+◌, ◌*◌, ◌-◌, ◌%◌, List, [], ◌∷◌, length, ℤ, pos, negsuc, sum}
use Rattle.std.specs.List.{filter}
use Rattle.std.specs.Ordering.{int_cmp, is_le}
use Rattle.mfotl_model.specs.Satisfaction.{Valuation}
use Rattle.mfotl_model.specs.declared.value.Value.{Value}
use Rattle.mfotl_model.specs.declared.value.Value.TheVariants.{Int, Text}

-- what is done with the values of one variable: nothing, a hash into so many parts, or a cut at each of
-- these integers
pub data Entry : Type 0 where
  Uncut : Entry
  Hash : (count : ℕ) → Entry
  Cut : (cuts : List ℤ) → Entry

-- an entry for each free variable of the policy, in the order of their numbers
abbrev pub Strategy : Type 0
Strategy = List Entry

-- into how many parts an entry cuts the values
abbrev pub parts_of : Entry → ℕ
parts_of Uncut = 1
parts_of (Hash count) = count
parts_of (Cut cuts) = length cuts + 1

-- the remainder of an integer, from 0 to below count, also of a negative one
abbrev pub remainder : ℤ → ℕ → ℕ
remainder (pos n) count = n % count
remainder (negsuc n) count = (count * (n + 1) - (n + 1)) % count

-- the part that a value is in
abbrev pub strategy_part : Entry → Value → ℕ
strategy_part Uncut a = 0
strategy_part (Hash count) (Int n) = remainder n count
strategy_part (Hash count) (Text bytes) = sum bytes % count
strategy_part (Cut cuts) (Int n) = length (filter (λ c. is_le (int_cmp c n)) cuts)
strategy_part (Cut cuts) (Text bytes) = 0

-- how many workers there are: one for each choice of a part for each variable
abbrev pub workers_of : Strategy → ℕ
workers_of [] = 1
workers_of (e ∷ es) = parts_of e * workers_of es

-- the number whose digits are the parts of the values of the variables from y on
abbrev pub owner_from : ℕ → Strategy → Valuation → ℕ
owner_from y [] v = 0
owner_from y (e ∷ es) v = strategy_part e (v y) * workers_of es + owner_from (y + 1) es v

-- the worker that a row over all free variables belongs to: the number whose digits are the parts of its
-- values, the first variable most significant
abbrev pub owner_of : Strategy → Valuation → ℕ
owner_of strategy v = owner_from 0 strategy v
