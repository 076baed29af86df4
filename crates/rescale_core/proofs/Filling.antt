-- A piece that is collected comes into the queue where the first of its generation is missing.
use Rattle.std.proofs.Common.{◌≡◌, ◌≢◌, ◌⊎◌, ℕ, zero, suc, ◌+◌, ◌<◌, ◌≤◌, Bool, true, false, cond, ◌&&◌, nat_eq, Option}
use Rattle.std.proofs.Common.{Some, None, option_map, List, [], ◌∷◌, ◌++◌, length, map, drop, sym, refl, ap, inl, inr}
use Rattle.std.proofs.Common.{⊎_elim, append_assoc, append-nil, arith, eq-eqb, ne_eqb, length-append}
use Rattle.std.proofs.{lemmas.List.Elements.filter-append, lemmas.Bool.cases_eq, lemmas.Bool.Decides.nat_tests}
use Rattle.std.specs.List.{range_with_len}
use native.Mathlib.Decide.{ℕ_discrete}
use Rattle.mfotl_model.specs.Strategies.{workers_of}
use Rattle.monitorable.specs.CoreForms.{CoreForm}
use Rattle.rescale_core.proofs.SlotLemmas.{filling, fillings}
use Rattle.rescale_core.proofs.WorldLemmas.{Above, before_change, before_point, holes_before, line_above, mapped}
use Rattle.rescale_core.specs.{Chances.Chance, Soundly.Supplies, Soundly.IsSound, Worlds.World, Worlds.line_in}
use Rattle.rescale_worker.specs.Lines.{ChangeOfStrategy, Spot, Due, change_at, moved, first_spot, line, place}
use Rattle.rescale_worker.specs.Lines.Due.{Slicing, Parting, Hole}
use Rattle.rescale_core.specs.Handing.{nth, for_place, chance, chance_from}
use Rattle.rescale_worker.specs.declared.{item.Entry.Entry, item.Entry.TheVariants.Point, item.Entry.TheVariants.Change}
use Rattle.rescale_worker.specs.declared.{item.Item.Item, item.Item.TheVariants.Adopt}
use Rattle.monitor_state.specs.declared.state.Piece.{Piece}

-- the pieces of generation g that are due: the j-th, then the next
abbrev pub Next : ℕ → ℕ → List Due → Type 0
Next g j [] = Unit {0}
Next g j (Slicing h s log p ∷ ds) = Next g j ds
Next g j (Parting t ∷ ds) = Next g j ds
Next g j (Hole t i ∷ ds) = ((t.generation ≡ g) × (i ≡ j) × Next g (j + 1) ds) ⊎ ((t.generation ≢ g) × Next g j ds)

none_next : (g j : ℕ) (ds : List Due) → Above g ds → Next g j ds
none_next g j [] a = tt
none_next g j (Slicing h s log p ∷ ds) a = none_next g j ds a
none_next g j (Parting t ∷ ds) a = none_next g j ds a.1
none_next g j (Hole t i ∷ ds) a = inr ((λ e. (let h = a.0 in omega arith)), none_next g j ds a.1)

these_next : (t : ChangeOfStrategy) (n j : ℕ) (ds : List Due) → Above t.generation ds
    → Next t.generation j (map (λ i. Hole t i) (range_with_len j n) ++ ds)
these_next t zero j ds a = none_next t.generation j ds a
these_next t (suc n) j ds a = inl (refl, refl, these_next t n (j + 1) ds a)

place_next : (g : ℕ) (t : ChangeOfStrategy) (ds : List Due) → Above t.generation ds → Next g 0 ds
    → Dec (t.generation ≡ g) → Next g 0 (place t ++ ds)
place_next g t ds above rest (yes e) = rw (← e) (these_next t (workers_of t.old) 0 ds above)
place_next g t ds above rest (no n) =
    holes_before (Next g 0) t (range_with_len 0 (workers_of t.old)) ds (λ i ds r. inr (n, r)) rest

pub line_next : (g k : ℕ) (es : List Entry) (a : Spot) → Next g 0 (line k a es)
line_next g k [] a = tt
line_next g k (Point p ∷ es) a = let rest = line_next g k es (moved a (Point p)) in
    before_point (Next g 0) k a p (line k (moved a (Point p)) es) rest rest
line_next g k (Change s ∷ es) a =
    let more : List Due = line k (moved a (Change s)) es in
    let rest = line_next g k es (moved a (Change s)) in
    before_change (Next g 0) (Next g 0) k a s more (λ ds r. (r, r)) rest (place_next g (change_at a s) more
    (line_above k es (moved a (Change s))) rest (ℕ_discrete (a.generation + 1) g))

nth_past : {A : Type 0} (xs : List A) (n : ℕ) → length xs ≤ n → nth xs n ≡ None
nth_past [] n h = refl
nth_past (y ∷ xs) zero h = absurd (omega arith)
nth_past (y ∷ xs) (suc n) h = nth_past xs n (omega arith)

nth_none : {A : Type 0} (xs : List A) (n : ℕ) → nth xs n ≡ None → length xs ≤ n
nth_none [] n e = omega arith
nth_none (y ∷ xs) zero e = cc
nth_none (y ∷ xs) (suc n) e = let h = nth_none xs n e in omega arith

-- where one more comes at the end, if it does
nth_one : {A : Type 0} (xs : List A) (x : A) (b : Bool) (n : ℕ)
    → nth (xs ++ cond b (x ∷ []) []) n ≡ cond (b && nat_eq n (length xs)) (Some x) (nth xs n)
nth_one [] x true zero = refl
nth_one [] x true (suc n) = grind (arith, nat_tests)
nth_one [] x false n = refl
nth_one (y ∷ xs) x b zero = grind (arith, nat_tests)
nth_one (y ∷ xs) x b (suc n) = let rest = nth_one xs x b n in grind (arith, nat_tests)

unchosen : {A : Type 0} (g h m n i j : ℕ) (x y : A) → (g ≡ h → m ≡ n → i ≢ j)
    → cond ((nat_eq g h && nat_eq m n) && nat_eq i j) x y ≡ y
unchosen g h m n i j x y other = grind (arith, nat_tests)

-- behind what was handed over, the next piece is no further than those that came
pub next_drop : (c : CoreForm) (q : ℕ) (pieces : List Piece) (g : ℕ) (is : List Item) (j : ℕ) (ds : List Due)
    → Supplies c q pieces ds is → Next g j ds → j ≤ length (for_place g q pieces)
    → (i : ℕ) × Next g i (drop (length is) ds) × (i ≤ length (for_place g q pieces))
next_drop c q pieces g [] j ds s n h = (j, n, h)
next_drop c q pieces g (i ∷ is) j [] s n h = absurd s
next_drop c q pieces g (i ∷ is) j (Slicing x y log p ∷ ds) s n h = next_drop c q pieces g is j ds s.1 n h
next_drop c q pieces g (i ∷ is) j (Parting t ∷ ds) s n h = next_drop c q pieces g is j ds s.1 n h
next_drop c q pieces g (i ∷ is) j (Hole t m ∷ ds) s n h = ⊎_elim
    (λ a.
    let e = mapped (λ p. Adopt p t.new) (nth (for_place t.generation q pieces) m) i s.0 in
    let same : length (for_place t.generation q pieces) ≡ length (for_place g q pieces) =
    ap (λ x. length (for_place x q pieces)) a.0 in
    let near : m < length (for_place t.generation q pieces) =
    grind (arith, nth_past (for_place t.generation q pieces) m, e.1) in
    let here : m ≡ j = a.1 in
    next_drop c q pieces g is (j + 1) ds s.1 a.2 (omega arith))
    (λ a. next_drop c q pieces g is j ds s.1 a.1 h)
    n

module _ (c : CoreForm) (q : ℕ) (pieces : List Piece) (p : Piece) where
  abbrev old : Due → Chance
  old d = chance c q pieces d

  abbrev new : Due → Chance
  new d = chance c q (pieces ++ p ∷ []) d

  abbrev came : ChangeOfStrategy → List Piece
  came t = for_place t.generation q pieces

  nth_new : (t : ChangeOfStrategy) (i : ℕ) → nth (for_place t.generation q (pieces ++ p ∷ [])) i
      ≡ cond ((nat_eq p.generation t.generation && nat_eq p.to q) && nat_eq i (length (came t))) (Some p)
      (nth (came t) i)
  nth_new t i =
      rw (filter-append (λ x. nat_eq x.generation t.generation && nat_eq x.to q) pieces (p ∷ []))
      (nth_one (came t) p (nat_eq p.generation t.generation && nat_eq p.to q) i)

  -- a hole that the piece doesn't fill
  same_hole : (t : ChangeOfStrategy) (i : ℕ)
      → (p.generation ≡ t.generation → p.to ≡ q → i ≢ length (came t)) → new (Hole t i) ≡ old (Hole t i)
  same_hole t i other =
      rw (nth_new t i, unchosen p.generation t.generation p.to q i (length (came t)) (Some p) (nth (came t) i) other)

  -- what is past the piece's place, or another worker's, stays
  kept : (j : ℕ) (ds : List Due) → Next p.generation j ds
      → (p.to ≡ q → length (for_place p.generation q pieces) < j) → map new ds ≡ map old ds
  kept j [] n h = refl
  kept j (Slicing g s log x ∷ ds) n h = ap (λ r. old (Slicing g s log x) ∷ r) (kept j ds n h)
  kept j (Parting t ∷ ds) n h = ap (λ r. old (Parting t) ∷ r) (kept j ds n h)
  kept j (Hole t i ∷ ds) n h = ⊎_elim
      (λ a.
      let l : length (came t) ≡ length (for_place p.generation q pieces) =
      ap (λ x. length (for_place x q pieces)) a.0 in
      let here : i ≡ j = a.1 in
      rw (same_hole t i (λ g to e. (omega (arith, h to))), kept (j + 1) ds a.2 (λ to. omega (arith, h to))))
      (λ a. rw (same_hole t i (λ g to. absurd (a.0 (sym g))), kept j ds a.1 h))
      n

  passes : (t : ChangeOfStrategy) (i : ℕ) (o : Option Piece) (r : List Chance)
      → (o ≡ None → t.generation ≢ p.generation)
      → filling p (chance_from (Hole t i) (option_map (λ y. Adopt y t.new) o) ∷ r)
      ≡ chance_from (Hole t i) (option_map (λ y. Adopt y t.new) o) ∷ filling p r
  passes t i (Some y) r h = refl
  passes t i None r h = rw (ne_eqb t.generation p.generation (h refl))

  -- the piece comes into its place
  filled : (j : ℕ) (ds : List Due) → p.to ≡ q → Next p.generation j ds
      → j ≤ length (for_place p.generation q pieces) → map new ds ≡ filling p (map old ds)
  filled j [] to n h = refl
  filled j (Slicing g s log x ∷ ds) to n h = ap (λ r. old (Slicing g s log x) ∷ r) (filled j ds to n h)
  filled j (Parting t ∷ ds) to n h = ap (λ r. old (Parting t) ∷ r) (filled j ds to n h)
  filled j (Hole t i ∷ ds) to n h = ⊎_elim
      (λ (a : (t.generation ≡ p.generation) × (i ≡ j) × Next p.generation (j + 1) ds).
      let l : length (came t) ≡ length (for_place p.generation q pieces) =
      ap (λ x. length (for_place x q pieces)) a.0 in
      let same : t.generation ≡ p.generation = a.0 in
      let here : i ≡ j = a.1 in
      ⊎_elim
      (λ e.
      let none = nth_past (came t) i (omega arith) in
      let rest = kept (j + 1) ds a.2 (λ to. (omega arith)) in
      rw (nth_new t i, eq-eqb p.generation t.generation (sym same), eq-eqb p.to q to, eq-eqb i (length (came t)) e)
      (rw (none, eq-eqb t.generation p.generation same, rest)))
      (λ e. rw (same_hole t i (λ g to. e), filled (j + 1) ds to a.2 (omega arith))
      (sym (passes t i (nth (came t) i) (map old ds) (λ none. absurd (omega (arith, nth_none (came t) i none))))))
      (cases_eq i (length (came t))))
      (λ a. rw (same_hole t i (λ g to. absurd (a.0 (sym g))), filled j ds to a.1 h)
      (sym (passes t i (nth (came t) i) (map old ds) (λ none. a.0))))
      n

-- each piece finds its place
abbrev pub AreNext : ℕ → List Piece → List Due → Type 0
AreNext q pieces ds = (g : ℕ) → (i : ℕ) × Next g i ds × (i ≤ length (for_place g q pieces))

one_filled : (c : CoreForm) (q : ℕ) (pieces : List Piece) (p : Piece) (ds : List Due) → AreNext q pieces ds
    → map (chance c q (pieces ++ p ∷ [])) ds
    ≡ cond (nat_eq p.to q) (filling p (map (chance c q pieces) ds)) (map (chance c q pieces) ds)
one_filled c q pieces p ds w =
    let x = w p.generation in
    ⊎_elim (λ to. rw (eq-eqb p.to q to) (filled c q pieces p x.0 ds to x.1 x.2))
    (λ other. rw (ne_eqb p.to q other) (kept c q pieces p x.0 ds x.1 (λ to. absurd (other to)))) (cases_eq p.to q)

pub all_filled : (c : CoreForm) (q : ℕ) (ps pieces : List Piece) (ds : List Due) → AreNext q pieces ds
    → map (chance c q (pieces ++ ps)) ds ≡ fillings q ps (map (chance c q pieces) ds)
all_filled c q [] pieces ds w = rw append-nil
all_filled c q (p ∷ ps) pieces ds w =
    rw (← append_assoc pieces (p ∷ []) ps, all_filled c q ps (pieces ++ p ∷ []) ds longer, one_filled c q pieces p ds w)
  where
    longer : AreNext q (pieces ++ p ∷ []) ds
    longer g =
        let x = w g in
        let e = ap length (filter-append (λ x. nat_eq x.generation g && nat_eq x.to q) pieces (p ∷ [])) in
        (x.0, x.1, omega (arith, length-append (for_place g q pieces) (for_place g q (p ∷ []))))

pub are_next : (w : World) (q : ℕ) → IsSound w → AreNext q w.pieces (drop (length (w.seats q).fed) (line_in w q))
are_next w q r g = next_drop w.core q w.pieces g (w.seats q).fed 0 (line_in w q) (r.seated q).supplied
    (line_next g q w.read (first_spot w.first)) (omega arith)
