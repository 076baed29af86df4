-- Each row that is kept has a time, and each group a row.
use Rattle.std.proofs.Common.{◌≡◌, ℕ, ◌<◌, Bool, false, cond, nat_eq, List, [], ◌∷◌, length, None, sym, ap, ◌∙◌, arith}
use Rattle.std.proofs.{lemmas.Grind.common_steps, lemmas.Map.Entries.lookup-filter-keys}
use Rattle.std.specs.{BTreeMap.is_at, Cmp.eq_by_cmp_equiv, List.filter, Option.IfSome}
use Rattle.mfotl_model.specs.{Tables.has_row, Values.row_cmp, Values.row_total}
use Rattle.mfotl_model.specs.declared.value.Value.{Value}
use Rattle.relations.specs.KeptRows.{kept_for, list_for}
use Rattle.relations.proofs.MapLemmas.{same_row}
use Rattle.row_times.specs.{Groups.HaveTimes, Groups.NoneEmpty, Times.added}

-- a group has a row, and each of its rows a time
abbrev pub IsFilled : List (List Value × List ℕ) → Type 0
IsFilled group = (0 < length group) × HaveTimes group

-- what holds of all that is kept still does where some of it is left out
pub each_left : {X : Type 0} (P : X → Type 0) (stays : List Value → Bool) (old new : List (List Value × X))
    → ((v : List Value) → kept_for new v ≡ cond (stays v) (kept_for old v) None)
    → ((v : List Value) → IfSome (kept_for old v) P) → (v : List Value) → IfSome (kept_for new v) P
each_left {X} P stays old new is before v = grind arith

pub each_gone : {X : Type 0} (P : X → Type 0) (goes : List Value → Bool) (old new : List (List Value × X))
    → ((v : List Value) → kept_for new v ≡ cond (goes v) None (kept_for old v))
    → ((v : List Value) → IfSome (kept_for old v) P) → (v : List Value) → IfSome (kept_for new v) P
each_gone {X} P goes old new is before v = grind arith

-- where the groups of other parts are left out
pub filled_where : (parts : List (List Value)) (old new : List (List Value × List (List Value × List ℕ)))
    → new ≡ filter (λ e. has_row parts e.0) old → NoneEmpty old → NoneEmpty new
filled_where parts old new e =
    each_left IsFilled (has_row parts) old new (λ q. ap (λ es. kept_for es q) e
    ∙ lookup-filter-keys (is_at (row_cmp q)) (has_row parts) (has_row parts q)
    (λ k at. ap (has_row parts) (sym (same_row q k at))) old)

-- each row of the group at a part has a time, also where none is kept there
pub had_times : (key : List Value) (groups : List (List Value × List (List Value × List ℕ)))
    (group : List (List Value × List ℕ)) → group ≡ list_for groups key → NoneEmpty groups → HaveTimes group
had_times key groups group is all v = grind (arith, all key)

-- after one time more there are some
pub some_added : (bounded : Bool) (ts : List ℕ) (x : ℕ) → 0 < length (added bounded ts x)
unfolding added
some_added bounded ts x = grind (arith, common_steps)

-- a group that has times for a row has a row
row_there : (group : List (List Value × List ℕ)) (v : List Value) → 0 < length (list_for group v) → 0 < length group
row_there group v some = grind (arith, common_steps)

-- a group has the row that it was given times for
pub row_changed : (h : List ℕ → List ℕ) (row : List Value) (old new : List (List Value × List ℕ))
    → ((v : List Value) → list_for new v ≡ cond (is_at (row_cmp row) v) (h (list_for old v)) (list_for old v))
    → 0 < length (h (list_for old row)) → 0 < length new
row_changed h row old new is some = row_there new row (grind (arith, is row, (eq_by_cmp_equiv row_total).refl row))

-- a group has some of the rows that it was given times for
pub rows_changed : (h : List ℕ → List ℕ) (rows : List (List Value)) (old new : List (List Value × List ℕ))
    → ((v : List Value) → list_for new v ≡ cond (has_row rows v) (h (list_for old v)) (list_for old v))
    → ((ts : List ℕ) → 0 < length (h ts)) → nat_eq (length rows) 0 ≡ false → 0 < length new
rows_changed h [] old new is some full = cc
rows_changed h (row ∷ rows) old new is some full =
    row_there new row (grind (arith, is row, (eq_by_cmp_equiv row_total).refl row, some (list_for old row)))

-- one row
pub one_has : (first : List Value) (ts : List ℕ) → 0 < length ts → HaveTimes ((first, ts) ∷ [])
one_has first ts some v = grind arith
