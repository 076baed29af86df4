-- Tables whose columns are put into another order, and tables that are joined in it.
use Rattle.std.proofs.Common.{◌≡◌, ◌↔◌, ℕ, true, List, ap, arith}
use Rattle.mfotl_model.specs.{FreeVariables.among, Satisfaction.Valuation}
use Rattle.mfotl_model.specs.Tables.{TableOf, all_among, has, has_row}
use Rattle.mfotl_model.proofs.ColumnLemmas.{same_columns}
use Rattle.relations.proofs.JoinLemmas.{member_of_all}

-- a table is asked for the values of its own columns alone
pub has_same : (t : TableOf) (v w : Valuation) → ((y : ℕ) → among y t.columns ≡ true → v y ≡ w y) → has t v ≡ has t w
unfolding has
has_same t v w same = ap (has_row t.rows) (same_columns v w t.columns same)

-- a projection that keeps each column has the same rows
pub has_reordered : (t r : TableOf) (v : Valuation) (columns : List ℕ) → all_among t.columns columns ≡ true
    → (has r v ≡ true ↔ ((w : Valuation) × (((y : ℕ) → among y columns ≡ true → w y ≡ v y) × (has t w ≡ true))))
    → has r v ≡ has t v
has_reordered t r v columns whole projected = grind (arith, has_same, member_of_all)
