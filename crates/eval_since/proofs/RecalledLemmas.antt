-- The rows of plain data: what the groups give for them, and what is put into groups.
use Rattle.std.proofs.Common.{◌≡◌, ℕ, true, false, cond, nat_eq, ◌&&◌, ◌||◌, ◌<◌, List, [], ◌∷◌, length, map, None}
use Rattle.std.proofs.Common.{refl, sym, subst, ap, ◌∙◌, arith}
use Rattle.std.proofs.{lemmas.Bool.and_from, lemmas.Map.Keys.sorted_tail}
use Rattle.std.specs.{BTreeMap.is_at, Cmp.eq_by_cmp_equiv, List.AllByRecursion, List.list_any, Map.keys_of}
use Rattle.std.specs.{Option.unwrap_or, Ordering.eq_by_cmp}
use Rattle.mfotl_model.specs.{Tables.all_sized, Tables.part, Values.row_cmp, Values.row_total}
use Rattle.mfotl_model.specs.declared.{interval.Interval.Interval, value.Value.Value}
use Rattle.relations.specs.KeptRows.{RowsAscend, RowsDiffer, filled, kept_for}
use Rattle.relations.proofs.KeptLemmas.{any_is, ascending_differ, differ_tail, each_kept, filled_back, filled_is}
use Rattle.relations.proofs.KeptLemmas.{none_behind}
use Rattle.relations.proofs.MapLemmas.{same_row}
use Rattle.row_times.specs.{Groups.hit, Groups.times_at, Times.reaches}
use Rattle.row_times.specs.KeptTimes.{first_times, times_for, times_kept}
use Rattle.eval_since.specs.Recalled.{put_times, recalls}
use Rattle.row_times.specs.declared.kept_row.KeptRow.{KeptRow}
use Rattle.row_times.proofs.GroupLemmas.{StandsIn, stands_tail}

-- where a row stands in one group alone, the first times found are those there
pub first_there : (k u : List Value) (es : List (List Value × List (List Value × List ℕ)))
    → RowsDiffer es → StandsIn es k u → first_times es u ≡ filled (times_at es k u)
first_there k u [] apart stands = refl
first_there k u (e ∷ es) apart stands =
    let rest = first_there k u es (differ_tail e es apart) (stands_tail e es k u apart stands) in
    grind (arith, rest, none_behind k e es apart, stands e.0, (eq_by_cmp_equiv row_total).refl e.0)

-- what the data says of a row is what its own times say
pub recalls_is : (interval : Interval) (rows : List KeptRow) (x : ℕ) (u : List Value) → RowsAscend (times_kept rows)
    → recalls interval rows x u ≡ reaches interval (times_for rows u) x
recalls_is interval rows x u up = pairs rows
    ∙ any_is (λ ts. reaches interval ts x) refl u (times_kept rows) (ascending_differ (times_kept rows) up)
  where
    pairs : (ks : List KeptRow) → recalls interval ks x u ≡ list_any (hit interval x u) (times_kept ks)
    pairs [] = refl
    pairs (k ∷ ks) = ap (λ b. (eq_by_cmp row_cmp u k.row && reaches interval k.times.items x) || b) (pairs ks)

-- what is put into the groups of parts is found there
pub put_is : (right left : List ℕ) (es : List (List Value × List ℕ)) → RowsAscend es
    → (q v : List Value) (times : List ℕ) → put_times right left es q v times
    ≡ cond (is_at (row_cmp (part right left v)) q) (unwrap_or (kept_for es v) times) times
put_is right left [] up q v times = grind arith
put_is right left (e ∷ es) up q v times =
    let rest = put_is right left es (sorted_tail row_cmp e.0 (keys_of es) up) q v
    (cond (is_at (row_cmp (part right left e.0)) q && is_at (row_cmp e.0) v) e.1 times) in
    let none = none_behind v e es (ascending_differ (e ∷ es) up) in
    grind (arith, rest, none, same_row e.0 v, (eq_by_cmp_equiv row_total).symm v e.0)

-- rows of n values have no times for a row of another number
pub times_sized : (n : ℕ) (rows : List KeptRow) (v : List Value) → all_sized n (map (λ k. k.row) rows) ≡ true
    → nat_eq (length v) n ≡ false → times_for rows v ≡ []
times_sized n [] v sized apart = refl
times_sized n (k ∷ ks) v sized apart = grind (arith, same_row v k.row, times_sized n ks v)

-- what holds of each row's times, and of none, holds of the times for a row
pub times_each : (P : List ℕ → Type 0) (rows : List KeptRow) → AllByRecursion (λ k. P k.times.items) rows → P []
    → (u : List Value) → P (times_for rows u)
times_each P [] all none u = none
times_each P (k ∷ ks) all none u = grind (arith, all.0, times_each P ks all.1 none u)

-- what the data keeps for a row is what a list of times gives
pub times_are : (rows : List KeptRow) (u : List Value) (ts : List ℕ) → kept_for (times_kept rows) u ≡ filled ts
    → times_for rows u ≡ ts
times_are rows u ts is = ap (λ o. unwrap_or o []) is ∙ filled_back ts

-- each row of the data, by what look-ups give
pub each_row : (P : List Value → List ℕ → Type 0) (rows : List KeptRow) (times : List Value → List ℕ)
    → RowsAscend (times_kept rows) → ((u : List Value) → kept_for (times_kept rows) u ≡ filled (times u))
    → ((u : List Value) → 0 < length (times u) → P u (times u)) → AllByRecursion (λ k. P k.row k.times.items) rows
each_row P rows times up found holds =
    unpaired rows (each_kept P (times_kept rows) up (λ u x is.
    let both = filled_is (times u) x (sym (found u) ∙ is) in
    subst (P u) both.0 (holds u both.1)))
  where
    unpaired : (ks : List KeptRow) → AllByRecursion (λ (e : List Value × List ℕ). P e.0 e.1) (times_kept ks)
        → AllByRecursion (λ (k : KeptRow). P k.row k.times.items) ks
    unpaired [] all = tt
    unpaired (k ∷ ks) all = (all.0, unpaired ks all.1)

-- the rows have n values where rows of another number have no times
pub rows_sized : (n : ℕ) (rows : List KeptRow) (times : List Value → List ℕ)
    → RowsAscend (times_kept rows) → ((u : List Value) → kept_for (times_kept rows) u ≡ filled (times u))
    → ((u : List Value) → nat_eq (length u) n ≡ false → times u ≡ []) → all_sized n (map (λ k. k.row) rows) ≡ true
rows_sized n rows times up found none =
    sized rows (each_row (λ u ts. nat_eq (length u) n ≡ true) rows times up found (λ u some. grind (arith, none u)))
  where
    sized : (ks : List KeptRow) → AllByRecursion (λ (k : KeptRow). nat_eq (length k.row) n ≡ true) ks
        → all_sized n (map (λ k. k.row) ks) ≡ true
    sized [] all = refl
    sized (k ∷ ks) all = and_from (nat_eq (length k.row) n) (all_sized n (map (λ k. k.row) ks)) all.0 (sized ks all.1)

-- without times there are no rows
pub no_rows : (rows : List KeptRow) → ((u : List Value) → kept_for (times_kept rows) u ≡ None) → rows ≡ []
no_rows [] none = refl
no_rows (k ∷ ks) none = absurd (grind (arith, none k.row, (eq_by_cmp_equiv row_total).refl k.row))
