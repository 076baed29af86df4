-- Tables that are pushed position by position, as the states of the temporal operators get them.
use Rattle.std.specs.Prelude.{◌≡◌, ℕ, ◌+◌, Bool, not, cond, List, [], ◌∷◌}
use Rattle.mfotl_model.specs.Satisfaction.{Valuation}
use Rattle.mfotl_model.specs.Tables.{TableOf, has}

-- each of the items stands for its position, the first for p
abbrev pub StandFrom : {X : Type 0} → (ℕ → X → Type 0) → ℕ → List X → Type 0
StandFrom P p [] = Unit {0}
StandFrom P p (x ∷ xs) = P p x × StandFrom P (p + 1) xs

-- each of the tables is over these columns
abbrev pub AreOver : List ℕ → List TableOf → Type 0
AreOver columns [] = Unit {0}
AreOver columns (x ∷ xs) = (x.columns ≡ columns) × AreOver columns xs

-- a truth value as it is, or turned round for a negated operand
abbrev pub turned : Bool → Bool → Bool
turned negated b = cond negated (not b) b

-- whether the left operand of SINCE or UNTIL holds of a valuation, by its table: that of a negated
-- operand is the operand's own
abbrev pub left_holds : Bool → TableOf → Valuation → Bool
left_holds negated table v = turned negated (has table v)
