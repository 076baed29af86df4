-- EXISTS for several variables, from the innermost on.
use Rattle.std.proofs.Common.{◌≡◌, ℕ, zero, suc, ◌+◌, ap, arith}
use Rattle.mfotl_model.specs.Formulas.{Form}
use Rattle.mfotl_parse.specs.Arguments.{blank, blanks}

-- one more variable is one more EXISTS around the formula
blanks_last : (n first : ℕ) (f : Form) → blanks (suc n) first f ≡ blanks n first (blank (first + n) f)
blanks_last zero first f = let same : first ≡ first + 0 = omega arith in ap (λ k. blank k f) same
blanks_last (suc n) first f = grind (arith, blanks_last n (suc first) f)

pub blanks_step : (n count first place : ℕ) (f : Form) → count ≡ suc n → place ≡ first + n
    → blanks n first (blank place f) ≡ blanks count first f
blanks_step n count first place f counted placed = cc (blanks_last n first f)
