-- Two ascending lists walked side by side: what is found at each key, and that the keys ascend.
use Rattle.std.proofs.Common.{◌≡◌, Bool, true, false, cond, List, [], ◌∷◌, map, Option, Some, None, refl, sym, ap, ◌∙◌}
use Rattle.std.proofs.{lemmas.Map.Views.tells_apart, lemmas.Map.Lookups.CmpEqualImpliesEq}
use Rattle.std.specs.{BTreeMap.is_at, Cmp.IsTotalOrder, List.AllByRecursion, List.Sorted.IsStrictlySortedBy}
use Rattle.std.specs.{Map.keys_of, Ordering.is_eq, Ordering.ordering_reverse}
use Rattle.std.specs.declared.cmp.Ordering.{Ordering}
use Rattle.std.specs.declared.cmp.Ordering.TheVariants.{Less, Equal, Greater}
use Rattle.mfotl_model.proofs.RowLemmas.{row_exact}
use Rattle.mfotl_model.specs.Values.{row_cmp, row_total}
use Rattle.mfotl_model.specs.declared.value.Value.{Value}
use Rattle.relations.specs.KeptRows.{RowsAscend, kept_for}
use Rattle.monitor_state.specs.JoinedRows.{RowsUnion, either}
use Rattle.state_merge.specs.Pairs.{by_order, walked}

-- what holds of each of three values holds of the one that an ordering chooses
pub chosen : {A : Type 0} (P : A → Type 0) (o : Ordering) (a b c : A) → (o ≡ Less → P a) → (o ≡ Equal → P b)
    → (o ≡ Greater → P c) → P (by_order o a b c)
chosen P Less a b c less equal greater = less refl
chosen P Equal a b c less equal greater = equal refl
chosen P Greater a b c less equal greater = greater refl

-- what holds of a walk over two lists, by the order of their first ones
pub by_first : {I X : Type 0} (order : I → I → Ordering) (told : I → X) (both : I → I → X) (P : List X → Type 0)
    (x y : I) (xs ys : List I) → (order x y ≡ Less → P (told x ∷ walked order told both xs (y ∷ ys)))
    → (order x y ≡ Equal → P (both x y ∷ walked order told both xs ys))
    → (order x y ≡ Greater → P (told y ∷ walked order told both (x ∷ xs) ys))
    → P (walked order told both (x ∷ xs) (y ∷ ys))
by_first order told both P x y xs ys less equal greater =
    chosen P (order x y) (told x ∷ walked order told both xs (y ∷ ys)) (both x y ∷ walked order told both xs ys)
    (told y ∷ walked order told both (x ∷ xs) ys) less equal greater

-- ---- keys that ascend

module _ {K : Type 0} {cmp : K → K → Ordering} (total : IsTotalOrder cmp) where
  -- what is greater than another one has that before it
  pub turned : (a b : K) → cmp a b ≡ Greater → cmp b a ≡ Less
  turned a b e = total.antisymm b a ∙ ap ordering_reverse e

  -- what is behind m is behind k, which is before it
  pub further : (k m : K) (ks : List K) → cmp k m ≡ Less → AllByRecursion (λ q. cmp m q ≡ Less) ks
      → AllByRecursion (λ q. cmp k q ≡ Less) ks
  further k m [] low all = all
  further k m (q ∷ ks) low all = (total.trans k m q low all.0, further k m ks low all.1)

module _ {I K E : Type 0} {cmp : K → K → Ordering} (total : IsTotalOrder cmp) (exact : CmpEqualImpliesEq cmp)
    (key : E → K) (told : I → E) (both : I → I → E)
    (same : (x y : I) → cmp (key (told x)) (key (told y)) ≡ Equal → key (both x y) ≡ key (told x)) where
  abbrev order : I → I → Ordering
  order x y = cmp (key (told x)) (key (told y))

  abbrev walk : List I → List I → List E
  walk xs ys = walked order told both xs ys

  -- each key is behind k
  abbrev Behind : K → List E → Type 0
  Behind k es = AllByRecursion (λ q. cmp k q ≡ Less) (map key es)

  abbrev Ascend : List E → Type 0
  Ascend es = IsStrictlySortedBy cmp (map key es)

  -- what both lists are behind, a walk over them is
  pub walk_behind : (k : K) (xs ys : List I) → Behind k (map told xs) → Behind k (map told ys) → Behind k (walk xs ys)
  walk_behind k [] ys ax ay = ay
  walk_behind k (x ∷ xs) [] ax ay = ax
  walk_behind k (x ∷ xs) (y ∷ ys) ax ay =
      by_first order told both (Behind k) x y xs ys (λ e. (ax.0, walk_behind k xs (y ∷ ys) ax.1 ay))
      (λ e. (rw (same x y e) ax.0, walk_behind k xs ys ax.1 ay.1)) (λ e. (ay.0, walk_behind k (x ∷ xs) ys ax ay.1))

  -- the keys of a walk ascend
  pub walk_ascends : (xs ys : List I) → Ascend (map told xs) → Ascend (map told ys) → Ascend (walk xs ys)
  unfolding IsStrictlySortedBy
  walk_ascends [] ys ax ay = ay
  walk_ascends (x ∷ xs) [] ax ay = ax
  walk_ascends (x ∷ xs) (y ∷ ys) ax ay =
      let k = key (told x) in
      let m = key (told y) in
      by_first order told both Ascend x y xs ys
      (λ e. (
        walk_behind k xs (y ∷ ys) ax.0 (e, further total k m (map key (map told ys)) e ay.0),
        walk_ascends xs (y ∷ ys) ax.1 ay,
      ))
      (λ e. (
        rw (same x y e) (walk_behind k xs ys ax.0 (rw (← exact k m e) at ay.0)),
        walk_ascends xs ys ax.1 ay.1,
      ))
      (λ e. let low = turned total k m e in (
        walk_behind m (x ∷ xs) ys (low, further total m k (map key (map told xs)) low ax.0) ay.0,
        walk_ascends (x ∷ xs) ys ax ay.1,
      ))

-- ---- what is found at a key

-- where the other keeps nothing, there is what the one keeps
pub either_none : {X : Type 0} (both : X → X → X) (o : Option X) → either both o None ≡ o
either_none both None = refl
either_none both (Some x) = refl

chose_first : {X : Type 0} (both : X → X → X) (b : Bool) (x : X) (rest o k : Option X) → (b ≡ true → k ≡ None)
    → rest ≡ either both o k → cond b (Some x) rest ≡ either both (cond b (Some x) o) k
chose_first both true x rest o k none h = rw (none refl) refl
chose_first both false x rest o k none h = h

chose_second : {X : Type 0} (both : X → X → X) (b : Bool) (x : X) (rest o k : Option X) → (b ≡ true → o ≡ None)
    → rest ≡ either both o k → cond b (Some x) rest ≡ either both o (cond b (Some x) k)
chose_second both true x rest o k none h = rw (none refl) refl
chose_second both false x rest o k none h = h

chose_both : {X : Type 0} (both : X → X → X) (b : Bool) (x y : X) (rest o k : Option X) → rest ≡ either both o k
    → cond b (Some (both x y)) rest ≡ either both (cond b (Some x) o) (cond b (Some y) k)
chose_both both true x y rest o k h = refl
chose_both both false x y rest o k h = h

module _ {I X : Type 0} (row : I → List Value) (value : I → X) (both : X → X → X) where
  abbrev kept : I → List Value × X
  kept i = (row i, value i)

  abbrev kept_of_both : I → I → List Value × X
  kept_of_both x y = (row x, both (value x) (value y))

  abbrev rows_order : I → I → Ordering
  rows_order x y = row_cmp (row x) (row y)

  abbrev merged : List I → List I → List (List Value × X)
  merged xs ys = walked rows_order kept kept_of_both xs ys

  -- nothing is found for a row that all are behind
  absent : (u w : List Value) (es : List (List Value × X)) → AllByRecursion (λ q. row_cmp w q ≡ Less) (keys_of es)
      → is_at (row_cmp u) w ≡ true → kept_for es u ≡ None
  absent u w [] all at = refl
  absent u w (e ∷ es) all at =
      ap (λ v. cond (is_at (row_cmp v) e.0) (Some e.1) (kept_for es u)) (tells_apart row_exact u w at)
      ∙ ap (λ o. cond (is_eq o) (Some e.1) (kept_for es u)) all.0 ∙ absent u w es all.1 at

  -- for each row there is what both keep together
  merged_finds : (xs ys : List I) → RowsAscend (map kept xs) → RowsAscend (map kept ys) → (u : List Value)
      → kept_for (merged xs ys) u ≡ either both (kept_for (map kept xs) u) (kept_for (map kept ys) u)
  unfolding IsStrictlySortedBy
  merged_finds [] ys ax ay u = refl
  merged_finds (x ∷ xs) [] ax ay u = sym (either_none both (kept_for (map kept (x ∷ xs)) u))
  merged_finds (x ∷ xs) (y ∷ ys) ax ay u =
      by_first rows_order kept kept_of_both (λ es. kept_for es u ≡ either both (kept_for (map kept (x ∷ xs)) u)
      (kept_for (map kept (y ∷ ys)) u)) x y xs ys
      (λ e. chose_first both (is_at (row_cmp u) (row x)) (value x) _ _ _ (absent u (row x) (map kept (y ∷ ys))
      (e, further row_total (row x) (row y) (keys_of (map kept ys)) e ay.0)) (merged_finds xs (y ∷ ys) ax.1 ay u))
      (λ e. rw (← row_exact (row x) (row y) e) (chose_both both (is_at (row_cmp u) (row x)) (value x) (value y) _ _ _
      (merged_finds xs ys ax.1 ay.1 u)))
      (λ e. let low = turned row_total (row x) (row y) e in
      chose_second both (is_at (row_cmp u) (row y)) (value y) _ _ _ (absent u (row y) (map kept (x ∷ xs))
      (low, further row_total (row y) (row x) (keys_of (map kept xs)) low ax.0)) (merged_finds (x ∷ xs) ys ax ay.1 u))

  -- rows that a walk over two lists gives are the union of both
  pub rows_united : (xs ys zs : List I) → RowsAscend (map kept xs) → RowsAscend (map kept ys)
      → map kept zs ≡ merged xs ys → RowsUnion both (map kept xs) (map kept ys) (map kept zs)
  rows_united xs ys zs ax ay is =
      record {
        each = λ u. rw is (merged_finds xs ys ax ay u);
        ascend = rw is (walk_ascends row_total row_exact (λ e. e.0) kept kept_of_both (λ x y e. refl) xs ys ax ay);
      }

-- where nothing is asked, it holds of all
pub unasked : {I : Type 0} (is : List I) → AllByRecursion (λ i. Unit {0}) is
unasked [] = tt
unasked (i ∷ is) = (tt, unasked is)
