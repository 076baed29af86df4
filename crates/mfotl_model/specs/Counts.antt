-- How many positions of a log are settled.
use Rattle.std.specs.Prelude.{ℕ, zero, suc, ◌+◌, Bool, cond, List, length}
use Rattle.mfotl_model.specs.Formulas.{Form}
use Rattle.mfotl_model.specs.Settled.{settled}

-- how many of the n numbers from i on pass the test before the first one that doesn't
abbrev pub passing : (ℕ → Bool) → ℕ → ℕ → ℕ
passing p i zero = 0
passing p i (suc n) = cond (p i) (passing p (i + 1) n + 1) 0

-- at how many positions, from the first on, the formula is settled
unfoldable pub settled_count : List ℕ → Form → ℕ
settled_count times f = passing (settled times f) 0 (length times)
