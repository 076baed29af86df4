-- Starts of runs where one has no others beside it.
use Rattle.std.proofs.Common.{◌≡◌, ℕ, true, false, cond, List, [], ◌∷◌, Some, None, length, get_or, sym, ap, ◌∙◌, arith}
use Rattle.std.proofs.Math.Bool.{or-false}
use Rattle.std.specs.{BTreeMap.is_at, Cmp.eq_by_cmp_equiv, List.IsDistinct, Option.unwrap_or}
use Rattle.mfotl_model.specs.{Tables.has_row, Values.row_cmp, Values.row_total}
use Rattle.mfotl_model.specs.declared.value.Value.{Value}
use Rattle.relations.specs.KeptRows.{RowsDiffer, kept_for}
use Rattle.relations.proofs.MapLemmas.{same_row}

-- one row has no other beside it
pub one_differs : (row : List Value) (s : ℕ) → RowsDiffer ((row, s) ∷ [])
unfolding IsDistinct
one_differs row s = (tt, tt)

-- what is found of one start
pub one_found : (row w : List Value) (s : ℕ) → kept_for ((row, s) ∷ []) w ≡ cond (is_at (row_cmp row) w) (Some s) None
one_found row w s = ap (λ b. cond b (Some s) None) ((eq_by_cmp_equiv row_total).symm w row)

-- the one start, put where there was none
pub one_put : (row w : List Value) (s : ℕ) (none : List (List Value × ℕ)) → none ≡ []
    → kept_for ((row, s) ∷ []) w ≡ cond (is_at (row_cmp row) w) (Some s) (kept_for none w)
one_put row w s none e = cc (one_found row w s)

-- the one start, removed
pub one_removed : (row lone w : List Value) (s : ℕ) (none : List (List Value × ℕ)) → none ≡ []
    → is_at (row_cmp row) lone ≡ true
    → kept_for none w ≡ cond (is_at (row_cmp row) w) None (kept_for ((lone, s) ∷ []) w)
one_removed row lone w s none e at = grind (arith, one_found lone w s, same_row row lone)

-- the one start, where another is removed
pub one_left : (row lone w : List Value) (s : ℕ) → is_at (row_cmp row) lone ≡ false
    → kept_for ((lone, s) ∷ []) w ≡ cond (is_at (row_cmp row) w) None (kept_for ((lone, s) ∷ []) w)
one_left row lone w s apart = grind (arith, same_row row w)

-- the only start, which goes on
pub only_found : (row lone w : List Value) (s p : ℕ) → is_at (row_cmp row) lone ≡ true → kept_for ((lone, s) ∷ []) w
    ≡ cond (is_at (row_cmp row) w) (Some (unwrap_or (kept_for ((lone, s) ∷ []) w) p)) None
only_found row lone w s p at = grind (arith, same_row row lone, (eq_by_cmp_equiv row_total).symm w lone)

-- the one row of a table
pub only_row : (table : List (List Value)) (row w : List Value) → length table ≡ 1 → row ≡ get_or table 0 row
    → is_at (row_cmp row) w ≡ has_row table w
only_row [] row w one is = absurd (omega (arith, one))
only_row (r ∷ q ∷ rs) row w one is = absurd (omega (arith, one))
only_row (r ∷ []) row w one is = (eq_by_cmp_equiv row_total).symm row w ∙ ap (λ x. is_at (row_cmp w) x) is
    ∙ sym (or-false (is_at (row_cmp w) r))

-- a start that is put in place of all
pub only_put : (row copy w : List Value) (starts : List Value → ℕ) (s : ℕ) → copy ≡ row → s ≡ starts row
    → kept_for ((copy, s) ∷ []) w ≡ cond (is_at (row_cmp row) w) (Some (starts w)) None
only_put row copy w starts s is from = grind (arith, one_found copy w s, same_row row w)
