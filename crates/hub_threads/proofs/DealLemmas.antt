-- Hands that are dealt round by round.
use Rattle.std.proofs.Common.{◌≡◌, ◌∙◌, ap, ap₂, sym, refl, ℕ, zero, suc, ◌+◌, ◌*◌, ◌-◌, ◌/◌, ◌%◌, ◌<◌, ◌≤◌, ◌++◌, List}
use Rattle.std.proofs.Common.{[], ◌∷◌, length, arith, Bool, true, false, map, get_or, take, drop, set, Vec, nat_eq}
use Rattle.std.proofs.Common.{add-one}
use Rattle.std.proofs.{lemmas.Bool.eqb-true, lemmas.Bool.eqb-false, lemmas.Nat.mod-mul-add, lemmas.Nat.mod_below}
use Rattle.std.proofs.lemmas.List.{ext_get_or, get_or-map, get_or-set_same, get_or-set_other, length-drop}
use Rattle.std.proofs.lemmas.List.{map-append, map-set}
use Rattle.std.proofs.lemmas.List.FromFn.{get_or-map-range_with_len, length-map-range_with_len, map-range_with_len_more}
use Rattle.std.specs.{Global.Global, List.range_with_len}
use mathlib.Core.Option.{some}
use lib.ListN.{get_elem?, length-set}
use Rattle.turn_hub.specs.Ends.{AreInOrder, hand_cell}
use Rattle.turn_hub.specs.declared.hub.Hand.{Hand}
use Rattle.hub_threads.specs.Hands.{cells_of, dealt, every_nth, group_cells}

-- ---- one element more

-- at a place that counts
nth_hit : {X : Type 0} (n k q : ℕ) (xs : List X) (x : X) → 0 < n → length xs ≡ k + q * n
    → every_nth n k (xs ++ x ∷ []) ≡ every_nth n k xs ++ x ∷ []
nth_hit n zero q [] x many at = refl
nth_hit n (suc k) q [] x many at = absurd (omega arith)
nth_hit n zero zero (y ∷ xs) x many at = absurd (omega arith)
nth_hit n zero (suc q) (y ∷ xs) x many at = ap (λ ys. y ∷ ys) (nth_hit n (n - 1) q xs x many (omega arith))
nth_hit n (suc k) q (y ∷ xs) x many at = nth_hit n k q xs x many (omega arith)

-- at another place
nth_miss : {X : Type 0} (n k : ℕ) (xs : List X) (x : X) → 0 < n → ((q : ℕ) → length xs ≡ k + q * n → ⊥)
    → every_nth n k (xs ++ x ∷ []) ≡ every_nth n k xs
nth_miss n zero [] x many off = absurd (off 0 (omega arith))
nth_miss n (suc k) [] x many off = refl
nth_miss n zero (y ∷ xs) x many off =
    ap (λ ys. y ∷ ys) (nth_miss n (n - 1) xs x many (λ q at. off (suc q) (omega arith)))
nth_miss n (suc k) (y ∷ xs) x many off = nth_miss n k xs x many (λ q at. off q (omega arith))

-- each of n gets something, if nothing else nothing
size : {X : Type 0} (n : ℕ) (xs : List X) → length (dealt n xs) ≡ n
size n xs = length-map-range_with_len (λ t. every_nth n t xs) 0 n

-- what one of them gets
place : {X : Type 0} (n t : ℕ) (xs : List X) → t < n → get_or (dealt n xs) t [] ≡ every_nth n t xs
place n t xs low = get_or-map-range_with_len (λ t. every_nth n t xs) 0 n t t [] low (omega arith)

module _ {X : Type 0} (n m : ℕ) (xs : List X) (x : X) (many : 0 < n) (count : length xs ≡ m) where
  abbrev more : List (List X)
  more = set (dealt n xs) (m % n) (every_nth n (m % n) xs ++ x ∷ [])

  -- whose turn it is gets it, and nobody else
  gets : (t : ℕ) (b : Bool) → t < n → nat_eq t (m % n) ≡ b → get_or more t [] ≡ every_nth n t (xs ++ x ∷ [])
  gets t true low e =
      let same : t ≡ m % n = eqb-true t (m % n) e in
      rw same (get_or-set_same (dealt n xs) (m % n) (every_nth n (m % n) xs ++ x ∷ []) []
      (omega (arith, size n xs, mod_below m n many))
      ∙ sym (nth_hit n (m % n) (m / n) xs x many (grind arith)))
  gets t false low e =
      let other : t ≡ m % n → ⊥ = eqb-false t (m % n) e in
      let off : (q : ℕ) → length xs ≡ t + q * n → ⊥ = λ q at.
      let is : m ≡ q * n + t = omega arith in
      other (sym (mod-mul-add q n t low) ∙ ap (λ l. l % n) (sym is)) in
      get_or-set_other (dealt n xs) (m % n) t (every_nth n (m % n) xs ++ x ∷ []) [] other ∙ place n t xs low
      ∙ sym (nth_miss n t xs x many off)

  dealt_more : more ≡ dealt n (xs ++ x ∷ [])
  dealt_more =
      let all : length more ≡ n =
      length-set (dealt n xs) (m % n) (every_nth n (m % n) xs ++ x ∷ []) ∙ size n xs in
      ext_get_or [] _ _ (all ∙ sym (size n (xs ++ x ∷ []))) (λ t below.
      let low : t < n = omega (arith, below, all) in
      gets t (nat_eq t (m % n)) low refl ∙ sym (place n t (xs ++ x ∷ []) low))

-- ---- hands

-- one group more without hands
pub none_dealt : {W I O S : Type 0} (gs : List (Vec (Hand W I O S) Global)) (g : Vec (Hand W I O S) Global) (n : ℕ)
    → group_cells gs ≡ dealt n [] → g.items ≡ [] → group_cells (gs ++ g ∷ []) ≡ dealt (n + 1) []
none_dealt {W} {I} {O} {S} gs g n are none =
    map-append (λ (g : Vec (Hand W I O S) Global). cells_of g.items) gs (g ∷ [])
    ∙ ap₂ (λ l c. l ++ c ∷ []) are (ap (λ hs. cells_of hs) none)
    ∙ sym (map-range_with_len_more (λ t. []) 0 n n (omega arith))

next_by : {X : Type 0} (k : ℕ) (xs : List X) (y : X) (ys : List X) → drop k xs ≡ y ∷ ys
    → (take (suc k) xs ≡ take k xs ++ y ∷ []) × (drop (suc k) xs ≡ ys) × (length (take k xs) ≡ k)
next_by zero [] y ys e = absurd cc
next_by zero (x ∷ xs) y ys e = let head : x ≡ y = cc in (ap (λ z. z ∷ []) head, cc, refl)
next_by (suc k) [] y ys e = absurd cc
next_by (suc k) (x ∷ xs) y ys e = search (next_by k xs y ys e)

-- the next element is taken of those that are left
pub next_taken : {X : Type 0} (k : ℕ) (xs : List X) (y : X) (ys : List X) → drop k xs ≡ y ∷ ys
    → (take (k + 1) xs ≡ take k xs ++ y ∷ []) × (drop (k + 1) xs ≡ ys) × (length (take k xs) ≡ k)
next_taken k xs y ys e = rw (add-one k) (next_by k xs y ys e)

-- where none is left all are taken
pub none_left : {X : Type 0} (k : ℕ) (xs : List X) → length (drop k xs) ≡ 0 → length xs ≤ k
none_left k xs none = omega (arith, length-drop k xs, none)

-- one hand more was dealt
pub one_dealt : {W I O S : Type 0} (gs : List (Vec (Hand W I O S) Global)) (group new : Vec (Hand W I O S) Global)
    (hand : Hand W I O S) (n k : ℕ) (xs : List ℕ) → 0 < n → length xs ≡ k → length gs ≡ n → group_cells gs ≡ dealt n xs
    → group ≡ get_or gs (k % n) group → new.items ≡ group.items ++ hand ∷ []
    → group_cells (set gs (k % n) new) ≡ dealt n (xs ++ hand_cell hand ∷ [])
one_dealt {W} {I} {O} {S} gs group new hand n k xs many count groups are at push =
    let low : k % n < n = mod_below k n many in
    let old : cells_of group.items ≡ every_nth n (k % n) xs =
    ap (λ (g : Vec (Hand W I O S) Global). cells_of g.items) at
    ∙ sym (get_or-map (λ (g : Vec (Hand W I O S) Global). cells_of g.items) gs (k % n) group []
    (omega (arith, low, groups)))
    ∙ ap (λ l. get_or l (k % n) []) are ∙ place n (k % n) xs low in
    let cells : cells_of new.items ≡ every_nth n (k % n) xs ++ hand_cell hand ∷ [] =
    ap (λ hs. cells_of hs) push ∙ map-append (λ h. hand_cell h) group.items (hand ∷ [])
    ∙ ap (λ l. l ++ hand_cell hand ∷ []) old in
    map-set (λ (g : Vec (Hand W I O S) Global). cells_of g.items) gs (k % n) new
    ∙ ap₂ (λ l c. set l (k % n) c) are cells ∙ dealt_more n k xs (hand_cell hand) many count

-- ---- the order of the hands

ordered : {X : Type 0} (f : X → ℕ) (a : ℕ) (xs : List X)
    → ((k : ℕ) (x : X) → get_elem? xs k ≡ some x → f x ≡ a + k) → map f xs ≡ range_with_len a (length xs)
ordered f a [] order = refl
ordered f a (x ∷ xs) order =
    let first : f x ≡ a = order 0 x refl ∙ omega arith in
    ap₂ (λ y ys. y ∷ ys) first (ordered f (a + 1) xs (λ k y at. order (suc k) y at ∙ omega arith))

-- hands in order are those of the first cells
pub in_order : {W I O S : Type 0} (hands : List (Hand W I O S)) (n : ℕ) → length hands ≡ n → AreInOrder hands
    → cells_of hands ≡ range_with_len 0 n
in_order hands n count order = grind (arith, ordered)
