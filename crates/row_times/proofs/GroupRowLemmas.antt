-- Changes of a group's rows, one after another.
use Rattle.std.proofs.Common.{arith, ◌≡◌, ℕ, ◌+◌, ◌<◌, Bool, true, cond, ◌&&◌, nat_eq, List, ◌∷◌, length, get_or}
use Rattle.std.proofs.Common.{take}
use Rattle.std.specs.{BTreeMap.is_at, Cmp.eq_by_cmp_equiv}
use Rattle.mfotl_model.specs.{Tables.has_row, Values.row_cmp, Values.row_total}
use Rattle.mfotl_model.specs.declared.value.Value.{Value}
use Rattle.relations.proofs.{KeptLemmas.empty_list, TableRows.has_more}

-- no rows change nothing
pub no_rows : (rows : List (List Value)) (v : List Value) (b : Bool) (more old : List ℕ) → nat_eq (length rows) 0 ≡ true
    → old ≡ cond (b && has_row rows v) more old
no_rows rows v b more old none = grind (arith, empty_list rows none)

module _ (h : List ℕ → List ℕ) (twice : (ts : List ℕ) → h (h ts) ≡ h ts) where
  -- one more row
  pub row_more : (rows : List (List Value)) (i : ℕ) (x v : List Value) (old cur new : List ℕ) → i < length rows
      → x ≡ get_or rows i x → cur ≡ cond (has_row (take i rows) v) (h old) old
      → new ≡ cond (is_at (row_cmp x) v) (h cur) cur → new ≡ cond (has_row (take (i + 1) rows) v) (h old) old
  row_more rows i x v old cur new low e before step = grind (arith, twice, has_more rows i x v low e)

  -- one row, before the rest
  pub row_rest : (x v : List Value) (rest : List (List Value)) (cur new : List ℕ)
      → new ≡ cond (is_at (row_cmp x) v) (h cur) cur
      → cond (has_row rest v) (h new) new ≡ cond (has_row (x ∷ rest) v) (h cur) cur
  row_rest x v rest cur new step = grind (arith, twice, (eq_by_cmp_equiv row_total).symm x v)
