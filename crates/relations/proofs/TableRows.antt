-- The rows of a table, one after another: what each of them passes, and which rows it lacks.
use Rattle.std.proofs.Common.{◌≡◌, ℕ, ◌+◌, ◌<◌, Bool, true, false, nat_eq, ◌||◌, List, [], ◌∷◌, length, get_or, take}
use Rattle.std.proofs.Common.{refl, sym, ap, ◌∙◌, arith}
use Rattle.std.proofs.lemmas.Bool.{and_from, or_left, or_right}
use Rattle.std.proofs.{lemmas.List.Folds.list_any_more, lemmas.Map.Views.tells_apart}
use Rattle.std.specs.{BTreeMap.is_at, Cmp.eq_by_cmp_equiv, List.list_all, Ordering.eq_by_cmp}
use Rattle.mfotl_model.proofs.RowLemmas.{row_exact}
use Rattle.mfotl_model.specs.{Tables.all_sized, Tables.has_row, Values.row_cmp, Values.row_total}
use Rattle.mfotl_model.specs.declared.value.Value.{Value}

-- a table of rows of n values lacks a row of another number
pub lacks_other : (n : ℕ) (rows : List (List Value)) (v : List Value) → all_sized n rows ≡ true
    → nat_eq (length v) n ≡ false → has_row rows v ≡ false
lacks_other n [] v sized apart = refl
lacks_other n (row ∷ rows) v sized apart =
    grind (arith, tells_apart row_exact v row, row_exact v row, lacks_other n rows v)

-- a list of rows of which each passes
pub all_rows : (p : List Value → Bool) (rows : List (List Value))
    → ((row : List Value) → has_row rows row ≡ true → p row ≡ true) → list_all p rows ≡ true
all_rows p [] each = refl
all_rows p (row ∷ rows) each =
    and_from (p row) (list_all p rows) (each row (or_left (eq_by_cmp row_cmp row row) (has_row rows row)
    ((eq_by_cmp_equiv row_total).refl row)))
    (all_rows p rows (λ r there. each r (or_right (eq_by_cmp row_cmp r row) (has_row rows r) there)))

-- one row more
pub has_more : (rows : List (List Value)) (i : ℕ) (x q : List Value) → i < length rows → x ≡ get_or rows i x
    → has_row (take (i + 1) rows) q ≡ (has_row (take i rows) q || is_at (row_cmp x) q)
has_more rows i x q low e =
    list_any_more (eq_by_cmp row_cmp q) rows i x low
    ∙ ap (λ y. has_row (take i rows) q || eq_by_cmp row_cmp q y) (sym e)
    ∙ ap (λ b. has_row (take i rows) q || b) ((eq_by_cmp_equiv row_total).symm q x)
