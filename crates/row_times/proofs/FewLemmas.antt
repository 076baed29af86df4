-- Rows that are looked at in turn: where one is found, and what a change at its place leaves.
use Rattle.std.proofs.Common.{◌≡◌, ℕ, zero, suc, ◌+◌, ◌<◌, ◌≤◌, Bool, true, false, not, cond, List, [], ◌∷◌, ◌++◌}
use Rattle.std.proofs.Common.{length, get_or, set, Some, None, refl, sym, subst, ap, ◌∙◌, arith}
use Rattle.std.proofs.{lemmas.Grind.common_steps, lemmas.Map.Keys.IsDistinct-push}
use Rattle.std.proofs.lemmas.Map.{lookup-remove_entry, lookup-set_value, keys-set_value}
use Rattle.std.specs.{BTreeMap.is_at, Cmp.eq_by_cmp_equiv, Ordering.eq_by_cmp}
use Rattle.std.specs.List.{AllByRecursion, IsDistinct, list_any, position, position_or_len, remove}
use Rattle.std.specs.Map.{keys_of, remove_entry, set_value}
use Rattle.std.specs.Option.{IsSome, is_some, unwrap_or}
use Rattle.mfotl_model.specs.Values.{row_cmp, row_total}
use Rattle.mfotl_model.specs.declared.value.Value.{Value}
use Rattle.relations.proofs.KeptLemmas.{differ_tail, each_after, none_behind}
use Rattle.relations.proofs.MapLemmas.{changed, either, same_row}
use Rattle.relations.specs.KeptRows.{RowsDiffer, kept_for, list_for}
use Rattle.row_times.specs.Groups.{HaveTimes}

module _ {X : Type 0} (row : List Value) where
  -- whether an entry is the row's
  abbrev pub is_its : List Value × X → Bool
  is_its e = is_at (row_cmp row) e.0

  -- ---- where the row stands
  abbrev IsPlace : List (List Value × X) → ℕ → Type 0
  IsPlace es i = (position_or_len is_its es ≡ i) × (i < length es)

  place_is : (es : List (List Value × X)) (i : ℕ) → position is_its es ≡ Some i → IsPlace es i
  place_is es i e = (grind (arith, common_steps), grind (arith, common_steps))

  -- the first place is the row's, or there is one behind it
  beyond : (P : ℕ → Type 0) (e : List Value × X) (es : List (List Value × X)) (i : ℕ) → IsPlace (e ∷ es) i
      → (is_at (row_cmp row) e.0 ≡ true → P 0)
      → (is_at (row_cmp row) e.0 ≡ false → (j : ℕ) → IsPlace es j → P (suc j)) → P i
  beyond P e es i at here behind = by (is_at (row_cmp row) e.0) refl
    where
      by : (b : Bool) → is_at (row_cmp row) e.0 ≡ b → P i
      by true is = subst P (sym (ap (λ c. cond (not c) (1 + position_or_len is_its es) 0) is) ∙ at.0) (here is)
      by false is =
          let next : 1 + position_or_len is_its es ≡ i = cc in
          let p : suc (position_or_len is_its es) ≡ i = omega arith in
          let within : i < suc (length es) = at.1 in
          subst P p (behind is (position_or_len is_its es) (refl, omega arith))

  found_there : (es : List (List Value × X)) (i : ℕ) (d : List Value × X) → IsPlace es i
      → kept_for es row ≡ Some (get_or es i d).1
  found_there [] i d at = grind arith
  found_there (e ∷ es) i d at = beyond (λ j. kept_for (e ∷ es) row ≡ Some (get_or (e ∷ es) j d).1) e es i at
      (λ is. grind arith) (λ apart j there. grind (arith, found_there es j d there))

  -- what stands at its place is kept for it
  found : (es : List (List Value × X)) (i : ℕ) (e : List Value × X) → position is_its es ≡ Some i
      → e ≡ get_or es i e → kept_for es row ≡ Some e.1
  found es i e at is = found_there es i e (place_is es i at) ∙ ap (λ d. Some d.1) (sym is)

  not_found : (es : List (List Value × X)) → length es ≤ position_or_len is_its es → kept_for es row ≡ None
  not_found [] past = refl
  not_found (e ∷ es) past = grind (arith, not_found es)

  pub absent : (es : List (List Value × X)) → position is_its es ≡ None → kept_for es row ≡ None
  absent es e = not_found es (grind (arith, common_steps))

  some_there : (es : List (List Value × X)) (i : ℕ) → IsPlace es i → is_some (kept_for es row) ≡ true
  some_there [] i at = grind arith
  some_there (e ∷ es) i at = ap is_some (found_there (e ∷ es) i e at)

  -- it has a place where something is kept for it
  pub placed : (es : List (List Value × X)) → is_some (position is_its es) ≡ is_some (kept_for es row)
  placed es = grind (arith, absent, some_there, place_is)

  -- ---- after another value at its place
  written_is : (es : List (List Value × X)) (i : ℕ) (d : List Value × X) (w : X) → IsPlace es i
      → set es i ((get_or es i d).0, w) ≡ set_value (is_at (row_cmp row)) es w
  written_is [] i d w at = refl
  written_is (e ∷ es) i d w at =
      beyond (λ j. set (e ∷ es) j ((get_or (e ∷ es) j d).0, w) ≡ set_value (is_at (row_cmp row)) (e ∷ es) w) e es i at
      (λ is. grind arith) (λ apart j there. grind (arith, written_is es j d w there))

  as_written : (es : List (List Value × X)) (i : ℕ) (e : List Value × X) (w : X) → position is_its es ≡ Some i
      → e ≡ get_or es i e → set es i (e.0, w) ≡ set_value (is_at (row_cmp row)) es w
  as_written es i e w at is = ap (λ d. set es i (d.0, w)) is ∙ written_is es i e w (place_is es i at)

  written : (es : List (List Value × X)) (i : ℕ) (e : List Value × X) (w : X) → position is_its es ≡ Some i
      → e ≡ get_or es i e → (v : List Value)
      → kept_for (set es i (e.0, w)) v ≡ cond (is_at (row_cmp row) v) (Some w) (kept_for es v)
  written es i e w at is v = ap (λ fs. kept_for fs v) (as_written es i e w at is)
      ∙ lookup-set_value (eq_by_cmp_equiv row_total) (is_at (row_cmp row)) ((eq_by_cmp_equiv row_total).congr row)
      v w es (subst IsSome (sym (found es i e at is)) refl)

  pub written_differ : (es : List (List Value × X)) (i : ℕ) (e : List Value × X) (w : X)
      → position is_its es ≡ Some i → e ≡ get_or es i e → RowsDiffer es → RowsDiffer (set es i (e.0, w))
  written_differ es i e w at is = search (as_written, keys-set_value)

  -- ---- without it
  removed_is : (es : List (List Value × X)) (i : ℕ) → IsPlace es i → remove es i ≡ remove_entry (is_at (row_cmp row)) es
  removed_is [] i at = grind arith
  removed_is (e ∷ es) i at =
      beyond (λ j. remove (e ∷ es) j ≡ remove_entry (is_at (row_cmp row)) (e ∷ es)) e es i at
      (λ is. grind arith) (λ apart j there. grind (arith, removed_is es j there))

  -- what was written where it stood is gone too
  unwritten : (es : List (List Value × X)) (i : ℕ) (e : List Value × X) → remove (set es i e) i ≡ remove es i
  unwritten es i e = grind (arith, common_steps, zero)

  removed : (es : List (List Value × X)) (i : ℕ) (e : List Value × X) → position is_its es ≡ Some i
      → RowsDiffer es → (v : List Value)
      → kept_for (remove (set es i e) i) v ≡ cond (is_at (row_cmp row) v) None (kept_for es v)
  removed es i e at apart v = ap (λ fs. kept_for fs v) (unwritten es i e ∙ removed_is es i (place_is es i at))
      ∙ lookup-remove_entry (eq_by_cmp_equiv row_total) (is_at (row_cmp row)) ((eq_by_cmp_equiv row_total).congr row)
      v es apart

  each_left : (P : List Value → Type 0) (es : List (List Value × X)) → AllByRecursion P (keys_of es)
      → AllByRecursion P (keys_of (remove_entry (is_at (row_cmp row)) es))
  each_left P [] all = tt
  each_left P (e ∷ es) all = grind (arith, either, each_left P es all.1)

  differ_left : (es : List (List Value × X)) → RowsDiffer es → RowsDiffer (remove_entry (is_at (row_cmp row)) es)
  unfolding IsDistinct
  differ_left [] apart = tt
  differ_left (e ∷ es) apart =
      let rest = differ_left es apart.1 in
      either RowsDiffer (is_at (row_cmp row) e.0) es (e ∷ remove_entry (is_at (row_cmp row)) es)
      (remove_entry (is_at (row_cmp row)) (e ∷ es)) refl apart.1
      (each_left (λ y. eq_by_cmp row_cmp e.0 y ≡ false) es apart.0, rest)

  pub removed_differ : (es : List (List Value × X)) (i : ℕ) (e : List Value × X) → position is_its es ≡ Some i
      → RowsDiffer es → RowsDiffer (remove (set es i e) i)
  removed_differ es i e at apart = search (unwritten, removed_is, place_is, differ_left)

  -- ---- with it behind the others, where it isn't there
  pushed : (es : List (List Value × X)) (w : X) → kept_for es row ≡ None → (v : List Value)
      → kept_for (es ++ (row, w) ∷ []) v ≡ cond (is_at (row_cmp row) v) (Some w) (kept_for es v)
  pushed [] w none v = grind (arith, (eq_by_cmp_equiv row_total).symm v row)
  pushed (e ∷ es) w none v = grind (arith, same_row v e.0, pushed es w)

  none_equal : (es : List (List Value × X)) → kept_for es row ≡ None
      → list_any (eq_by_cmp row_cmp row) (keys_of es) ≡ false
  none_equal [] none = refl
  none_equal (e ∷ es) none = grind (arith, none_equal es)

  keys_pushed : (es : List (List Value × X)) (w : X) → keys_of (es ++ (row, w) ∷ []) ≡ keys_of es ++ row ∷ []
  keys_pushed es w = grind (arith, common_steps)

  pub pushed_differ : (es : List (List Value × X)) (w : X) → position is_its es ≡ None → RowsDiffer es
      → RowsDiffer (es ++ (row, w) ∷ [])
  pushed_differ es w none apart = subst (IsDistinct (eq_by_cmp row_cmp)) (sym (keys_pushed es w))
      (IsDistinct-push (eq_by_cmp_equiv row_total) (keys_of es) row apart (none_equal es (absent es none)))

-- ---- times
module _ (row : List Value) where
  -- its own times
  pub own_list : (es : List (List Value × List ℕ)) (i : ℕ) (e : List Value × List ℕ)
      → position (is_its row) es ≡ Some i → e ≡ get_or es i e → list_for es row ≡ e.1
  own_list es i e at is = ap (λ o. unwrap_or o []) (found row es i e at is)

  pub no_list : (es : List (List Value × List ℕ)) → position (is_its row) es ≡ None → list_for es row ≡ []
  no_list es none = ap (λ o. unwrap_or o []) (absent row es none)

  pub list_written : (h : List ℕ → List ℕ) (es : List (List Value × List ℕ)) (i : ℕ) (e : List Value × List ℕ)
      (w : List ℕ) → position (is_its row) es ≡ Some i → e ≡ get_or es i e → w ≡ h e.1 → (v : List Value)
      → list_for (set es i (e.0, w)) v ≡ cond (is_at (row_cmp row) v) (h (list_for es v)) (list_for es v)
  list_written h es i e w at is gives v = grind (arith, changed, written row es i e w, own_list es i e)

  pub some_written : (es : List (List Value × List ℕ)) (i : ℕ) (e : List Value × List ℕ) (w : List ℕ)
      → position (is_its row) es ≡ Some i → e ≡ get_or es i e → 0 < length w → HaveTimes es
      → HaveTimes (set es i (e.0, w))
  some_written es i e w at is = grind (arith, each_after, written)

  pub list_removed : (h : List ℕ → List ℕ) (es : List (List Value × List ℕ)) (i : ℕ) (e d : List Value × List ℕ)
      → position (is_its row) es ≡ Some i → e ≡ get_or es i e → RowsDiffer es → [] ≡ h e.1 → (v : List Value)
      → list_for (remove (set es i d) i) v ≡ cond (is_at (row_cmp row) v) (h (list_for es v)) (list_for es v)
  list_removed h es i e d at is apart gives v = grind (arith, changed, removed row es i d, own_list es i e)

  pub some_removed : (es : List (List Value × List ℕ)) (i : ℕ) (d : List Value × List ℕ)
      → position (is_its row) es ≡ Some i → RowsDiffer es → HaveTimes es → HaveTimes (remove (set es i d) i)
  some_removed es i d at apart = grind (arith, each_after, removed)

  pub list_pushed : (h : List ℕ → List ℕ) (es : List (List Value × List ℕ)) (w : List ℕ)
      → position (is_its row) es ≡ None → w ≡ h [] → (v : List Value)
      → list_for (es ++ (row, w) ∷ []) v ≡ cond (is_at (row_cmp row) v) (h (list_for es v)) (list_for es v)
  list_pushed h es w none gives v = grind (arith, changed, pushed, absent, no_list)

  pub some_pushed : (es : List (List Value × List ℕ)) (w : List ℕ) → position (is_its row) es ≡ None → 0 < length w
      → HaveTimes es → HaveTimes (es ++ (row, w) ∷ [])
  some_pushed es w none = grind (arith, each_after, pushed, absent)

-- a row alone
pub one_differs : {X : Type 0} (row : List Value) (x : X) → RowsDiffer ((row, x) ∷ [])
unfolding IsDistinct
one_differs row x = (tt, tt)

-- ---- all of them, put one after another

-- the times of a row after those that are put for it
abbrev pub put_all : List (List Value × List ℕ) → List Value → List ℕ → List ℕ
put_all [] u ts = ts
put_all (e ∷ es) u ts = put_all es u (cond (is_at (row_cmp e.0) u) e.1 ts)

-- of rows that differ each is put once
pub put_once : (es : List (List Value × List ℕ)) → RowsDiffer es → (u : List Value) (ts : List ℕ)
    → put_all es u ts ≡ unwrap_or (kept_for es u) ts
put_once [] apart u ts = refl
put_once (e ∷ es) apart u ts =
    let rest = put_once es (differ_tail e es apart) u (cond (is_at (row_cmp e.0) u) e.1 ts) in
    grind (arith, rest, (eq_by_cmp_equiv row_total).symm e.0 u, none_behind u e es apart)

-- each of them has times
pub each_has : (es : List (List Value × List ℕ)) → RowsDiffer es → HaveTimes es
    → AllByRecursion (λ (e : List Value × List ℕ). 0 < length e.1) es
each_has [] apart have = tt
each_has (e ∷ es) apart have = (
  grind (arith, have e.0, (eq_by_cmp_equiv row_total).refl e.0),
  each_has es (differ_tail e es apart) (λ v. grind (arith, have v, none_behind v e es apart)),
)
