-- Lists that ascend by a number: one put into another, item by item, is what walking over both gives.
use Rattle.std.proofs.Common.{◌≡◌, ℕ, ◌<◌, Bool, true, false, ◌||◌, cond, nat_eq, nat_lt, List, [], ◌∷◌, length, map}
use Rattle.std.proofs.Common.{refl, sym, ap, ◌∙◌, arith}
use Rattle.std.proofs.{lemmas.Bool.and_parts, lemmas.Bool.Decides.nat_tests, lemmas.Cmp.nat_cmp_total}
use Rattle.std.proofs.{lemmas.List.map-id, lemmas.Map.Keys.IsStrictlyIncreasing-from_sorted}
use Rattle.std.proofs.{lemmas.Map.Keys.sorted_from_strictly_increasing, lemmas.Map.Lookups.exact_unsigned}
use Rattle.std.proofs.{Math.Bool.or_assoc}
use Rattle.std.specs.List.{AllByRecursion, list_all, list_any}
use Rattle.std.specs.{List.Sorted.IsStrictlyIncreasing, List.Sorted.IsStrictlySortedBy, Ordering.nat_cmp}
use Rattle.std.specs.{Ordering.ordering_reverse}
use Rattle.std.specs.declared.cmp.Ordering.{Ordering}
use Rattle.std.specs.declared.cmp.Ordering.TheVariants.{Less, Equal, Greater}
use Rattle.mfotl_model.proofs.LogicLemmas.{or_moved}
use Rattle.until_rows.specs.declared.recalled.Mark.{Mark}
use Rattle.monitor_state.specs.JoinedRows.{marks_joined, put_mark, put_time, times_united}
use Rattle.state_merge.specs.Pairs.{MarksAscend, by_order, lesser_mark, walked}
use Rattle.state_merge.proofs.PairLemmas.{by_first, chosen, further, turned, walk_ascends, walk_behind}

pub less_is : (x y : ℕ) → nat_cmp x y ≡ Less → nat_lt x y ≡ true
less_is x y h = grind (arith, nat_tests)

turned_back : (x y : ℕ) → nat_cmp y x ≡ Less → nat_cmp x y ≡ Greater
turned_back x y h = nat_cmp_total.antisymm x y ∙ ap ordering_reverse h

module _ {I : Type 0} (key : I → ℕ) (one : I → I → I) where
  -- an item put into a list by its key
  abbrev pub put : I → List I → List I
  put x [] = x ∷ []
  put x (y ∷ ys) = by_order (nat_cmp (key x) (key y)) (x ∷ y ∷ ys) (one x y ∷ ys) (y ∷ put x ys)

  abbrev pub all_put : List I → List I → List I
  all_put [] ys = ys
  all_put (x ∷ xs) ys = put x (all_put xs ys)

  -- what holds of a list that an item was put into, by the place where it was put
  place : (P : List I → Type 0) (x y : I) (ys : List I) → (nat_cmp (key x) (key y) ≡ Less → P (x ∷ y ∷ ys))
      → (nat_cmp (key x) (key y) ≡ Equal → P (one x y ∷ ys)) → (nat_cmp (key y) (key x) ≡ Less → P (y ∷ put x ys))
      → P (put x (y ∷ ys))
  place P x y ys less equal greater =
      chosen P (nat_cmp (key x) (key y)) (x ∷ y ∷ ys) (one x y ∷ ys) (y ∷ put x ys) less equal
      (λ e. greater (turned nat_cmp_total (key x) (key y) e))

  -- ---- each item, some item, and how many

  module _ (p : I → Bool) (join : (x y : I) → p x ≡ true → p y ≡ true → p (one x y) ≡ true) where
    put_holds : (x : I) (ys : List I) → p x ≡ true → list_all p ys ≡ true → list_all p (put x ys) ≡ true
    put_holds x [] px all = rw px refl
    put_holds x (y ∷ ys) px all =
        let parts = and_parts (p y) (list_all p ys) all in
        place (λ zs. list_all p zs ≡ true) x y ys (λ e. rw (px, all) refl)
        (λ e. rw (join x y px parts.0, parts.1) refl) (λ e. rw (parts.0, put_holds x ys px parts.1) refl)

    pub all_hold : (xs ys : List I) → list_all p xs ≡ true → list_all p ys ≡ true → list_all p (all_put xs ys) ≡ true
    all_hold [] ys ax ay = ay
    all_hold (x ∷ xs) ys ax ay =
        let parts = and_parts (p x) (list_all p xs) ax in
        put_holds x (all_put xs ys) parts.0 (all_hold xs ys parts.1 ay)

  module _ (p : I → Bool)
      (join : (x y : I) → nat_cmp (key x) (key y) ≡ Equal → p (one x y) ≡ (p x || p y)) where
    put_any : (x : I) (ys : List I) → list_any p (put x ys) ≡ (p x || list_any p ys)
    put_any x [] = refl
    put_any x (y ∷ ys) =
        place (λ zs. list_any p zs ≡ (p x || (p y || list_any p ys))) x y ys (λ e. refl)
        (λ e. rw (join x y e) (or_assoc (p x) (p y) (list_any p ys)))
        (λ e. rw (put_any x ys) (or_moved (p y) (p x) (list_any p ys)))

    pub any_of_all : (xs ys : List I) → list_any p (all_put xs ys) ≡ (list_any p xs || list_any p ys)
    any_of_all [] ys = refl
    any_of_all (x ∷ xs) ys =
        rw (put_any x (all_put xs ys), any_of_all xs ys) (sym (or_assoc (p x) (list_any p xs) (list_any p ys)))

  put_some : (x : I) (ys : List I) → 0 < length (put x ys)
  put_some x [] = omega arith
  put_some x (y ∷ ys) = place (λ zs. 0 < length zs) x y ys (λ e. omega arith) (λ e. omega arith) (λ e. omega arith)

  pub all_some : (xs ys : List I) → 0 < length xs → 0 < length (all_put xs ys)
  all_some [] ys some = absurd (omega arith)
  all_some (x ∷ xs) ys some = put_some x (all_put xs ys)

  -- ---- the order

  -- each key is behind k
  abbrev Behind : ℕ → List I → Type 0
  Behind k is = AllByRecursion (λ q. nat_cmp k q ≡ Less) (map key is)

  abbrev pub Ascend : List I → Type 0
  Ascend is = IsStrictlySortedBy nat_cmp (map key is)

  first : (x : I) (zs : List I) → Behind (key x) zs → put x zs ≡ x ∷ zs
  first x [] all = refl
  first x (z ∷ zs) all = ap (λ o. by_order o (x ∷ z ∷ zs) (one x z ∷ zs) (z ∷ put x zs)) all.0

  all_later : (y : I) (xs ys : List I) → Behind (key y) xs → all_put xs (y ∷ ys) ≡ y ∷ all_put xs ys
  all_later y [] ys all = refl
  all_later y (x ∷ xs) ys all =
      let zs = all_put xs ys in
      ap (put x) (all_later y xs ys all.1)
      ∙ ap (λ o. by_order o (x ∷ y ∷ zs) (one x y ∷ zs) (y ∷ put x zs)) (turned_back (key x) (key y) all.0)

  all_alone : (xs : List I) → Ascend xs → all_put xs [] ≡ xs
  unfolding IsStrictlySortedBy
  all_alone [] ax = refl
  all_alone (x ∷ xs) ax = ap (put x) (all_alone xs ax.1) ∙ first x xs ax.0

  module _ (same_key : (x y : I) → key (one x y) ≡ key y) where
    -- ---- the walk

    abbrev order : I → I → Ordering
    order x y = nat_cmp (key x) (key y)

    same : (x y : I) → order x y ≡ Equal → key (one x y) ≡ key x
    same x y e = same_key x y ∙ sym (exact_unsigned (key x) (key y) e)

    walked_put : (xs ys : List I) → Ascend xs → Ascend ys → walked order (λ i. i) one xs ys ≡ all_put xs ys
    unfolding IsStrictlySortedBy
    walked_put [] ys ax ay = map-id ys
    walked_put (x ∷ xs) [] ax ay = map-id (x ∷ xs) ∙ sym (all_alone (x ∷ xs) ax)
    walked_put (x ∷ xs) (y ∷ ys) ax ay =
        by_first order (λ i. i) one (λ is. is ≡ put x (all_put xs (y ∷ ys))) x y xs ys
        (λ e. let rest = walked_put xs (y ∷ ys) ax.1 ay in
        let behind = walk_behind nat_cmp_total exact_unsigned key (λ i. i) one same (key x) xs (y ∷ ys)
        (rw (map-id xs) ax.0) (e, rw (map-id ys) (further nat_cmp_total (key x) (key y) (map key ys) e ay.0)) in
        ap (λ is. x ∷ is) rest ∙ sym (first x (all_put xs (y ∷ ys)) (rw rest at behind)))
        (λ e. let zs = all_put xs ys in
        ap (λ is. one x y ∷ is) (walked_put xs ys ax.1 ay.1)
        ∙ sym (ap (λ o. by_order o (x ∷ y ∷ zs) (one x y ∷ zs) (y ∷ put x zs)) e)
        ∙ sym (ap (put x) (all_later y xs ys (rw (exact_unsigned (key x) (key y) e) at ax.0))))
        (λ e. let low = turned nat_cmp_total (key x) (key y) e in
        ap (λ is. y ∷ is) (walked_put (x ∷ xs) ys ax ay.1)
        ∙ sym (all_later y (x ∷ xs) ys (low, further nat_cmp_total (key y) (key x) (map key xs) low ax.0)))

    -- the items that a walk over two lists gives
    pub items_walked : (xs ys zs : List I) → Ascend xs → Ascend ys
        → map (λ i. i) zs ≡ walked order (λ i. i) one xs ys → zs ≡ all_put xs ys
    items_walked xs ys zs ax ay is = sym (map-id zs) ∙ is ∙ walked_put xs ys ax ay

    pub all_ascend : (xs ys : List I) → Ascend xs → Ascend ys → Ascend (all_put xs ys)
    all_ascend xs ys ax ay =
        rw (← walked_put xs ys ax ay)
        (walk_ascends nat_cmp_total exact_unsigned key (λ i. i) one same xs ys (rw (map-id xs) ax) (rw (map-id ys) ay))

by_tests : {A : Type 0} (l e : Bool) (a b c : A)
    → cond l a (cond e b c) ≡ by_order (cond l Less (cond e Equal Greater)) a b c
by_tests true e a b c = refl
by_tests false true a b c = refl
by_tests false false a b c = refl

-- ---- times

abbrev pub time_of : ℕ → ℕ
time_of t = t

abbrev pub one_time : ℕ → ℕ → ℕ
one_time x y = y

put_is : (x : ℕ) (ys : List ℕ) → put_time x ys ≡ put time_of one_time x ys
put_is x [] = refl
put_is x (y ∷ ys) =
    by_tests (nat_lt x y) (nat_eq x y) (x ∷ y ∷ ys) (y ∷ ys) (y ∷ put_time x ys)
    ∙ ap (λ zs. by_order (nat_cmp x y) (x ∷ y ∷ ys) (y ∷ ys) (y ∷ zs)) (put_is x ys)

pub times_are : (xs ys : List ℕ) → times_united xs ys ≡ all_put time_of one_time xs ys
times_are [] ys = refl
times_are (x ∷ xs) ys = put_is x (times_united xs ys) ∙ ap (put time_of one_time x) (times_are xs ys)

times_ascend : (xs : List ℕ) → IsStrictlyIncreasing xs → Ascend time_of one_time xs
times_ascend xs up = rw (map-id xs) (sorted_from_strictly_increasing xs up)

pub times_increase : (xs ys : List ℕ) → IsStrictlyIncreasing xs → IsStrictlyIncreasing ys
    → IsStrictlyIncreasing (times_united xs ys)
times_increase xs ys ax ay =
    let up = all_ascend time_of one_time (λ x y. refl) xs ys (times_ascend xs ax) (times_ascend ys ay) in
    rw (times_are xs ys) (IsStrictlyIncreasing-from_sorted _ (rw (map-id (all_put time_of one_time xs ys)) at up))

pub times_walked : (xs ys zs : List ℕ) → IsStrictlyIncreasing xs → IsStrictlyIncreasing ys
    → map time_of zs ≡ walked nat_cmp time_of one_time xs ys → zs ≡ times_united xs ys
times_walked xs ys zs ax ay is =
    items_walked time_of one_time (λ x y. refl) xs ys zs (times_ascend xs ax) (times_ascend ys ay) is
    ∙ sym (times_are xs ys)

-- ---- marks

abbrev pub place_of : Mark → ℕ
place_of m = m.place

put_mark_is : (m : Mark) (ns : List Mark) → put_mark m ns ≡ put place_of lesser_mark m ns
put_mark_is m [] = refl
put_mark_is m (n ∷ ns) =
    by_tests (nat_lt m.place n.place) (nat_eq m.place n.place) (m ∷ n ∷ ns) (lesser_mark m n ∷ ns) (n ∷ put_mark m ns)
    ∙ ap (λ os. by_order (nat_cmp m.place n.place) (m ∷ n ∷ ns) (lesser_mark m n ∷ ns) (n ∷ os)) (put_mark_is m ns)

pub marks_are : (ms ns : List Mark) → marks_joined ms ns ≡ all_put place_of lesser_mark ms ns
marks_are [] ns = refl
marks_are (m ∷ ms) ns = put_mark_is m (marks_joined ms ns) ∙ ap (put place_of lesser_mark m) (marks_are ms ns)

pub marks_ascend : (ms ns : List Mark) → MarksAscend ms → MarksAscend ns → MarksAscend (marks_joined ms ns)
marks_ascend ms ns am an = rw (marks_are ms ns) (all_ascend place_of lesser_mark (λ m n. refl) ms ns am an)

pub marks_walked : (ms ns os : List Mark) → MarksAscend ms → MarksAscend ns
    → map (λ m. m) os ≡ walked (λ (m n : Mark). nat_cmp m.place n.place) (λ m. m) lesser_mark ms ns
    → os ≡ marks_joined ms ns
marks_walked ms ns os am an is =
    items_walked place_of lesser_mark (λ m n. refl) ms ns os am an is ∙ sym (marks_are ms ns)
