-- Tables with their columns in another order.
use Rattle.std.specs.Prelude.{◌≡◌, ℕ, true, List, [], ◌∷◌, ◌++◌}
use Rattle.mfotl_model.specs.Satisfaction.{Valuation}
use Rattle.mfotl_model.specs.Tables.{TableOf, all_among, has}

-- a table was added with its columns in that order; they are the same columns
pub record PushedInOrder (order : List ℕ) (table : TableOf) (old new : List TableOf) : Type 0 where
  pub ordered : TableOf
  pub columns : ordered.columns ≡ order
  pub same : all_among order table.columns ≡ true → all_among table.columns order ≡ true
      → (v : Valuation) → has ordered v ≡ has table v
  pub pushed : new ≡ old ++ ordered ∷ []
