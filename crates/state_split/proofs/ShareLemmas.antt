-- Elements dealt among workers: one by one, and a list of them.
use Rattle.std.proofs.Common.{◌≡◌, ◌∙◌, ap, sym, refl, arith, ℕ, zero, suc, ◌+◌, ◌<◌, Bool, true, cond, List, [], ◌∷◌}
use Rattle.std.proofs.Common.{◌++◌, length, set, get_or, take, drop, map, replicate, length-append}
use Rattle.std.proofs.{lemmas.Grind.common_steps, lemmas.Iterator.Adapters.YieldsList-from_vec}
use Rattle.std.proofs.{lemmas.Iterator.Consumers.YieldsList-at, lemmas.List.FromFn.length-range_with_len}
use Rattle.std.proofs.{lemmas.Slice.Zip.length-zip}
use Rattle.std.proofs.lemmas.Iterator.{IsCollectResult, YieldsList-from_map, items_from_collect, maps}
use Rattle.std.proofs.lemmas.List.{get_or-map, length-map, length-replicate, map-append, map-set}
use Rattle.std.specs.{Fn.Called, Iterator.Adapters.map_callee, Iterator.Adapters.map_source, Prelude.min, Result.IfOk}
use Rattle.std.specs.{Vec.vec_items, Vec.vec_len}
use Rattle.std.specs.List.{AllByRecursion, filter, range_with_len, zip}
use Rattle.std.specs.Vec.Iter.{into_iter_items, into_iter_len, into_iter_steps}
use Rattle.std.specs.declared.{iter.Map.Map, result.Result.Result, result.Result.TheVariants.Err}
use Rattle.std.specs.declared.{result.Result.TheVariants.Ok, vec.IntoIter.IntoIter, vec.Vec.Vec}
use denote.Param.Members.{Mut}
use Rattle.relations.proofs.PushedLemmas.{stand_push}
use Rattle.relations.specs.Pushed.{StandFrom}
use Rattle.slice_strategy.proofs.SharingLemmas.{given_next, given_size, up_to}
use Rattle.slice_strategy.specs.{Sharing.given_to, Slicers.NoneFrom}
use Rattle.state_split.specs.Shares.{OneEach, each_longer, with_last}

-- ---- what holds of one for each worker

module _ {X : Type 0} where
  pub stand_weaker : (P Q : ℕ → X → Type 0) (y : ℕ) (xs : List X) → ((k : ℕ) (x : X) → P k x → Q k x)
      → StandFrom P y xs → StandFrom Q y xs
  stand_weaker P Q y [] step all = tt
  stand_weaker P Q y (x ∷ xs) step all = (step y x all.0, stand_weaker P Q (y + 1) xs step all.1)

  pub each_weaker : (count : ℕ) (P Q : ℕ → X → Type 0) (xs : List X) → ((k : ℕ) (x : X) → P k x → Q k x)
      → OneEach count P xs → OneEach count Q xs
  each_weaker count P Q xs step each = record { sized = each.sized; each = stand_weaker P Q 0 xs step each.each }

  pub stand_all : (P : ℕ → X → Type 0) (Q : X → Type 0) (y : ℕ) (xs : List X) → ((k : ℕ) (x : X) → P k x → Q x)
      → StandFrom P y xs → AllByRecursion Q xs
  stand_all P Q y [] step all = tt
  stand_all P Q y (x ∷ xs) step all = (step y x all.0, stand_all P Q (y + 1) xs step all.1)

-- one thing made of each
pub each_mapped : {X Y : Type 0} (n : ℕ) (L : ℕ → X → Type 0) (P : ℕ → Y → Type 0) (f : X → Y) (xs : List X)
    (ys : List Y) → ys ≡ map f xs → ((k : ℕ) (x : X) → L k x → P k (f x)) → OneEach n L xs → OneEach n P ys
each_mapped {X} n L P f xs ys is step each =
    rw is (record { sized = length-map xs f ∙ each.sized; each = by 0 xs each.each })
  where
    by : (y : ℕ) (xs : List X) → StandFrom L y xs → StandFrom P y (map f xs)
    by y [] all = tt
    by y (x ∷ xs) all = (step y x all.0, by (y + 1) xs all.1)

-- what a chain collects that starts at a list
pub each_collected : {X Y Z V E F : Type 0} (n : ℕ) (L : ℕ → X → Type 0) (P : ℕ → Y → Type 0) (f : X → Y) (v : Vec X V)
    (g : Mut F (X × Unit {0}) Y) {it : IntoIter X Z} {s : Map (IntoIter X Z) F} {callee : F} (r : Result (Vec Y Z) E)
    → OneEach n L (vec_items v) → IsCollectResult (maps (into_iter_steps {X = X} {Z = Z}) g) s r → map_source s ≡ it
    → into_iter_items it ≡ vec_items v → into_iter_len it ≡ vec_len v → map_callee s ≡ callee
    → ((x : X) (y : Y) (q : F) → Called g callee (x, tt) y q → (q ≡ callee) × (y ≡ f x))
    → ((k : ℕ) (x : X) → L k x → P k (f x)) → IfOk r (λ w. OneEach n P (vec_items w))
each_collected {Y = Y} {Z = Z} {E = E} n L P f v g r each ran source items size same calls step =
    by r (items_from_collect r ran (YieldsList-from_map g f
    (YieldsList-at source (YieldsList-from_vec (vec_items v) items (size ∙ v.ok.0))) same calls))
  where
    by : (r : Result (Vec Y Z) E) → IfOk r (λ w. vec_items w ≡ map f (vec_items v))
        → IfOk r (λ w. OneEach n P (vec_items w))
    by (Ok w) is = each_mapped n L P f (vec_items v) (vec_items w) is step each
    by (Err e) is = tt

-- one more
pub each_next : {X : Type 0} (n : ℕ) (P : ℕ → X → Type 0) (xs ys : List X) (x : X) → ys ≡ xs ++ x ∷ []
    → OneEach n P xs → P n x → OneEach (n + 1) P ys
each_next n P xs ys x is each one = grind (arith, length-append, stand_push)

-- so many times the same
pub each_copied : {X Y : Type 0} (h : X → Y) (y : Y) (n count : ℕ) (xs : List X) → n ≡ count
    → map h xs ≡ replicate n y → OneEach count (λ k x. h x ≡ y) xs
each_copied {X} h y n count xs same is =
    record {
      sized = sym (length-map xs h) ∙ ap length is ∙ length-replicate n y ∙ same;
      each = by 0 n xs is;
    }
  where
    by : (k n : ℕ) (xs : List X) → map h xs ≡ replicate n y → StandFrom (λ k x. h x ≡ y) k xs
    by k n [] e = tt
    by k zero (x ∷ xs) e = absurd cc
    by k (suc n) (x ∷ xs) e =
        let first : h x ≡ y = cc in
        let rest : map h xs ≡ replicate n y = cc in (first, by (k + 1) n xs rest)

-- ---- shares with more elements

module _ {V X : Type 0} (h : V → List X) where
  -- an element of its own for each
  pub each_longer_by : (count : ℕ) (P Q : ℕ → V → Type 0) (R : ℕ → X → Type 0) (old new : List V) (added : List X)
      → OneEach count P old → OneEach count R added → map h new ≡ each_longer (map h old) added
      → ((k : ℕ) (v w : V) (x : X) → P k v → R k x → h w ≡ h v ++ x ∷ [] → Q k w) → OneEach count Q new
  each_longer_by count P Q R old new added each more is step =
      let all = by 0 old new added is (each.sized ∙ sym more.sized) each.each more.each in
      record { sized = all.0 ∙ each.sized; each = all.1 }
    where
      by : (y : ℕ) (old new : List V) (added : List X) → map h new ≡ each_longer (map h old) added
          → length old ≡ length added → StandFrom P y old → StandFrom R y added
          → (length new ≡ length old) × StandFrom Q y new
      by y [] [] added is size all more = (refl, tt)
      by y (v ∷ old) (w ∷ new) (x ∷ added) is size all more =
          let first : h w ≡ h v ++ x ∷ [] = cc in
          let others : map h new ≡ each_longer (map h old) added = cc in
          let rest = by (y + 1) old new added others (omega (arith, size)) all.1 more.1 in
          (ap suc rest.0, (step y v w x all.0 more.0 first, rest.1))
      by y (v ∷ old) new [] is size all more = absurd (omega (arith, size))
      by y old new added is size all more = absurd cc

  -- the same element for some
  pub each_given : (count : ℕ) (x : X) (test : ℕ → Bool) (P Q : ℕ → V → Type 0) (old new : List V)
      → OneEach count P old → map h new ≡ given_to (with_last x) test 0 (map h old)
      → ((k : ℕ) (v w : V) → P k v → h w ≡ cond (test k) (h v ++ x ∷ []) (h v) → Q k w) → OneEach count Q new
  each_given count x test P Q old new each is step =
      let all = by 0 old new is each.each in record { sized = all.0 ∙ each.sized; each = all.1 }
    where
      by : (y : ℕ) (old new : List V) → map h new ≡ given_to (with_last x) test y (map h old) → StandFrom P y old
          → (length new ≡ length old) × StandFrom Q y new
      by y [] [] is all = (refl, tt)
      by y (v ∷ old) (w ∷ new) is all =
          let first : h w ≡ cond (test y) (h v ++ x ∷ []) (h v) = cc in
          let others : map h new ≡ given_to (with_last x) test (y + 1) (map h old) = cc in
          let rest = by (y + 1) old new others all.1 in (ap suc rest.0, (step y v w all.0 first, rest.1))
      by y old new is all = absurd cc

  -- the share at this place has one more, and those behind it wait
  pub longer_step : (shares : List V) (at : ℕ) (v new : V) (x : X) (before rest : List X) (all : List (List X))
      → at < length shares → v ≡ get_or shares at v → h new ≡ h v ++ x ∷ [] → before ≡ x ∷ rest
      → take at (map h shares) ++ each_longer (drop at (map h shares)) before ≡ all
      → take (suc at) (map h (set shares at new)) ++ each_longer (drop (suc at) (map h (set shares at new))) rest ≡ all
  longer_step [] at v new x before rest all low here made is so_far = absurd (omega (arith, low))
  longer_step (share ∷ shares) zero v new x before rest all low here made is so_far = cc
  longer_step (share ∷ shares) (suc at) v new x before rest all low here made is so_far =
      ap (λ more. h share ∷ more)
      (longer_step shares at v new x before rest _ (omega (arith, low)) here made is refl) ∙ so_far

  -- the share of the worker that was found has one more, and the next worker is known
  pub hand_step : (x : X) (test : ℕ → Bool) (k next : ℕ) (shares old : List V) (v new : V) → k < length shares
      → k < next → test k ≡ true → NoneFrom (k + 1) next test → v ≡ get_or shares k v → h new ≡ h v ++ x ∷ []
      → map h shares ≡ given_to (with_last x) (up_to test k) 0 (map h old)
      → map h (set shares k new) ≡ given_to (with_last x) (up_to test next) 0 (map h old)
  hand_step x test k next shares old v new low up is none here longer so_far =
      let size : length (map h old) ≡ length shares = grind (arith, given_size, up_to, length-map) in
      let found : h v ≡ get_or (map h shares) k (h v) = ap h here ∙ sym (get_or-map h shares k v (h v) low) in
      map-set h shares k new
      ∙ ap (set (map h shares) k) (longer ∙ ap (λ xs. xs ++ x ∷ []) found)
      ∙ ap (λ all. set all k (get_or all k (h v) ++ x ∷ [])) so_far
      ∙ given_next (with_last x) test k k next (map h old) (h v) (omega arith) (omega (arith, low, size)) up is
      (λ j high before. absurd (omega arith)) none

-- what is told of one item more
pub told_more : {K X : Type 0} (told : K → X) (ks more : List K) (k : K) (x : X) → more ≡ ks ++ k ∷ [] → told k ≡ x
    → map told more ≡ map told ks ++ x ∷ []
told_more told ks more k x is same = rw (is, map-append told ks (k ∷ []), same) refl

-- with one item less to come, that a share gets if it shall
pub dealt_step : {X : Type 0} (p : X → Bool) (x : X) (rest all share : List X) → share ++ filter p (x ∷ rest) ≡ all
    → cond (p x) (share ++ x ∷ []) share ++ filter p rest ≡ all
dealt_step p x rest all share e = grind (arith, common_steps)

-- ---- items of two lists, each with that of the other

zip_size : {X Y : Type 0} (xs : List X) (ys : List Y) → length xs ≡ length ys → length (zip xs ys) ≡ length xs
zip_size xs ys size = length-zip xs ys ∙ (let e : min (length xs) (length ys) ≡ length xs = omega arith in e)

pub each_paired : {X Y : Type 0} (n : ℕ) (L : ℕ → X → Type 0) (R : ℕ → Y → Type 0) (xs : List X) (ys : List Y)
    (pairs : List (X × Y)) → OneEach n L xs → OneEach n R ys → pairs ≡ zip xs ys
    → OneEach n (λ k e. L k e.0 × R k e.1) pairs
each_paired {X} {Y} n L R xs ys pairs ls rs e =
    let size : length xs ≡ length ys = ls.sized ∙ sym rs.sized in
    rw e (record { sized = zip_size xs ys size ∙ ls.sized; each = by 0 xs ys size ls.each rs.each })
  where
    by : (k : ℕ) (xs : List X) (ys : List Y) → length xs ≡ length ys → StandFrom L k xs → StandFrom R k ys
        → StandFrom (λ k e. L k e.0 × R k e.1) k (zip xs ys)
    by k [] ys size ls rs = tt
    by k (x ∷ xs) (y ∷ ys) size ls rs = ((ls.0, rs.0), by (k + 1) xs ys (omega (arith, size)) ls.1 rs.1)
    by k xs ys size ls rs = absurd (omega (arith, size))

-- ---- one thing made of each, and of its number

stand_numbered : {X Y : Type 0} (L : ℕ → X → Type 0) (P : ℕ → Y → Type 0) (f : ℕ × X → Y) (y n : ℕ) (xs : List X)
    → length xs ≡ n → ((k : ℕ) (x : X) → L k x → P k (f (k, x))) → StandFrom L y xs
    → StandFrom P y (map f (zip (range_with_len y n) xs))
stand_numbered L P f y zero xs size step all = tt
stand_numbered L P f y (suc n) (x ∷ xs) size step all =
    (step y x all.0, stand_numbered L P f (y + 1) n xs (omega (arith, size)) step all.1)
stand_numbered L P f y n xs size step all = absurd (omega (arith, size))

pub each_numbered : {X Y Z E : Type 0} (n count : ℕ) (L : ℕ → X → Type 0) (P : ℕ → Y → Type 0) (f : ℕ × X → Y)
    (xs : List X) (r : Result (Vec Y Z) E) → n ≡ count → IfOk r (λ w. vec_items w ≡ map f (zip (range_with_len 0 n) xs))
    → ((k : ℕ) (x : X) → L k x → P k (f (k, x))) → OneEach count L xs → IfOk r (λ w. OneEach count P (vec_items w))
each_numbered n count L P f xs r same is step each =
    grind (arith, length-range_with_len, length-map, zip_size, stand_numbered)
