-- Tables without a variable.
use Rattle.std.specs.Prelude.{◌≡◌, ◌↔◌, ℕ, true, List, [], ◌∷◌}
use Rattle.mfotl_model.specs.FreeVariables.{without}
use Rattle.mfotl_model.specs.Satisfaction.{Valuation, with_value}
use Rattle.mfotl_model.specs.Tables.{TableOf, has}
use Rattle.mfotl_model.specs.declared.value.Value.{Value}

-- the second table has the first one's rows without the variable x
pub record IsWithout (x : ℕ) (table quantified : TableOf) : Type 0 where
  pub columns : quantified.columns ≡ without x table.columns
  pub rows : (v : Valuation) → has quantified v ≡ true ↔ ((a : Value) × (has table (with_value v x a) ≡ true))

-- table by table
abbrev pub Quantifies : ℕ → List TableOf → List TableOf → Type 0
Quantifies x [] [] = Unit {0}
Quantifies x (table ∷ tables) (q ∷ qs) = IsWithout x table q × Quantifies x tables qs
Quantifies x tables qs = ⊥
