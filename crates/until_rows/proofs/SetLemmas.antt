-- Sets of rows: one row more, and one row less.
use Rattle.std.proofs.Common.{◌≡◌, Bool, true, false, cond, ◌&&◌, ◌||◌, List, [], ◌∷◌, ◌++◌, arith, ◌∙◌}
use Rattle.std.proofs.{lemmas.List.Folds.list_any-append, Math.Bool.or-false}
use Rattle.std.specs.{BTreeMap.is_at, Cmp.eq_by_cmp_equiv, Ordering.eq_by_cmp}
use Rattle.mfotl_model.specs.{Tables.has_row, Values.row_cmp, Values.row_total}
use Rattle.mfotl_model.specs.declared.value.Value.{Value}
use Rattle.relations.proofs.MapLemmas.{same_row}

-- a list of one row has that one
pub one_row : (row u : List Value) → has_row (row ∷ []) u ≡ is_at (row_cmp row) u
one_row row u = or-false (eq_by_cmp row_cmp u row) ∙ (eq_by_cmp_equiv row_total).symm u row

-- a row that is there already
pub same_twice : (first row u : List Value) → is_at (row_cmp first) row ≡ true
    → has_row (first ∷ []) u ≡ (is_at (row_cmp first) u || is_at (row_cmp row) u)
same_twice first row u same = grind (arith, one_row first u, same_row first row)

-- without its only row
pub only_gone : (first row u : List Value) → is_at (row_cmp first) row ≡ true
    → false ≡ cond (is_at (row_cmp row) u) false (is_at (row_cmp first) u)
only_gone first row u same = grind (arith, same_row first row)

-- without a row that isn't there
pub other_stays : (first row u : List Value) → is_at (row_cmp first) row ≡ false
    → has_row (first ∷ []) u ≡ cond (is_at (row_cmp row) u) false (is_at (row_cmp first) u)
other_stays first row u apart = grind (arith, one_row first u, same_row row u)

-- a row that passes was appended
pub pass_pushed : (p : List Value → Bool) (out : List (List Value)) (row u : List Value) → p row ≡ true
    → has_row (out ++ row ∷ []) u ≡ (has_row out u || (is_at (row_cmp u) row && p u))
pass_pushed p out row u passes = grind (arith, list_any-append, same_row)

-- a row that doesn't pass wasn't
pub fail_left : (p : List Value → Bool) (out : List (List Value)) (row u : List Value) → p row ≡ false
    → has_row out u ≡ (has_row out u || (is_at (row_cmp u) row && p u))
fail_left p out row u fails = grind (arith, same_row u row)
