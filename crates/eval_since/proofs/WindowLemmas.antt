-- A table's rows, added or forgotten one after another in the groups of their parts.
use Rattle.std.proofs.Common.{◌≡◌, ℕ, ◌+◌, ◌<◌, true, cond, ◌&&◌, nat_eq, List, [], ◌∷◌, length, get_or, take, Result}
use Rattle.std.proofs.Common.{ap, arith}
use Rattle.std.proofs.lemmas.Result.{on_ok_weaker}
use Rattle.std.specs.{BTreeMap.is_at, Cmp.eq_by_cmp_equiv, Result.OnOk}
use Rattle.mfotl_model.specs.{Values.row_cmp, Values.row_total, Tables.has_row, Tables.part}
use Rattle.mfotl_model.specs.declared.value.Value.{Value}
use Rattle.relations.proofs.{KeptLemmas.empty_list, MapLemmas.same_row, TableRows.has_more}
use Rattle.row_times.specs.Groups.{times_at}

-- one row of a table, before the rest of it
pub rows_rest : (h : List ℕ → List ℕ) → ((ts : List ℕ) → h (h ts) ≡ h ts)
    → (right left : List ℕ) (x key q v : List Value) (rest : List (List Value)) (cur new : List ℕ)
    → key ≡ part right left x → new ≡ cond (is_at (row_cmp key) q && is_at (row_cmp x) v) (h cur) cur
    → cond (is_at (row_cmp (part right left v)) q && has_row rest v) (h new) new
    ≡ cond (is_at (row_cmp (part right left v)) q && has_row (x ∷ rest) v) (h cur) cur
rows_rest h twice right left x key q v rest cur new is step =
    grind (arith, twice, same_row x v, (eq_by_cmp_equiv row_total).symm x v)

-- a table of one row
pub one_row : (h : List ℕ → List ℕ) → ((ts : List ℕ) → h (h ts) ≡ h ts)
    → (right left : List ℕ) (x key q v : List Value) (cur new : List ℕ)
    → key ≡ part right left x → new ≡ cond (is_at (row_cmp key) q && is_at (row_cmp x) v) (h cur) cur
    → new ≡ cond (is_at (row_cmp (part right left v)) q && has_row (x ∷ []) v) (h cur) cur
one_row h twice right left x key q v cur new is step = grind (arith, same_row x v, (eq_by_cmp_equiv row_total).symm x v)

-- one more row of a table
pub rows_more : (h : List ℕ → List ℕ) → ((ts : List ℕ) → h (h ts) ≡ h ts)
    → (right left : List ℕ) (rows : List (List Value)) (i : ℕ) (x key q v : List Value)
    (old cur new : List (List Value × List (List Value × List ℕ))) → i < length rows → x ≡ get_or rows i x
    → key ≡ part right left x
    → times_at cur q v ≡ cond (is_at (row_cmp (part right left v)) q && has_row (take i rows) v)
    (h (times_at old q v)) (times_at old q v)
    → times_at new q v ≡ cond (is_at (row_cmp key) q && is_at (row_cmp x) v) (h (times_at cur q v)) (times_at cur q v)
    → times_at new q v ≡ cond (is_at (row_cmp (part right left v)) q && has_row (take (i + 1) rows) v)
    (h (times_at old q v)) (times_at old q v)
rows_more h twice right left rows i x key q v old cur new low e is before step =
    grind (arith, twice, same_row x v, has_more rows i x v low e)

-- the part at no columns is the empty row
no_part : (right left : List ℕ) (row : List Value) → nat_eq (length left) 0 ≡ true → [] ≡ part right left row
unfolding part
no_part right left row none = ap (λ wanted. part right wanted row) (empty_list left none)

-- so where there are no columns all rows stand in the group of the empty row
pub all_together : {T E : Type 0} (result : Result T E) (right left : List ℕ) (h : List ℕ → List ℕ)
    (rows : List (List Value)) (old new : List (List Value × List (List Value × List ℕ)))
    → nat_eq (length left) 0 ≡ true → OnOk result ((q v : List Value) → times_at new q v
    ≡ cond (is_at (row_cmp []) q && has_row rows v) (h (times_at old q v)) (times_at old q v))
    → OnOk result ((q v : List Value) → times_at new q v
    ≡ cond (is_at (row_cmp (part right left v)) q && has_row rows v) (h (times_at old q v)) (times_at old q v))
all_together result right left h rows old new none = grind (arith, on_ok_weaker, no_part)
