-- What a swap that gave the cell back tells.
use Rattle.std.proofs.Common.{◌≡◌, ◌≢◌, ◌⊎◌, ℕ, List, [], ◌∷◌, ◌++◌, length, set, sym, refl, ◌∙◌, arith, Some, ◌==◌}
use Rattle.std.proofs.{Math.Logic.⊎_map, lemmas.Bool.Decides.nat_tests, lemmas.List.nil_from_length}
use Rattle.std.proofs.{lemmas.Option.same_Some}
use mathlib.Core.Option.{some, none, some-injective}
use lib.ListN.{get_elem?}
use Rattle.atomic_table.specs.Table.{step}
use Rattle.turn_hub.specs.declared.{view.Cell.Cell, view.Line.Line}
use Rattle.turn_hub.specs.Steps.{Seated, looked, main_looks, IsLeft, hands_over, ReadyAt}
use Rattle.turn_hub.specs.{Words.next_turn, Answers.LooksOnce, Answers.swapped_line}
use Rattle.turn_hub.proofs.Slots.{same_slot}

-- no items, or some
pub turn_is : {A : Type 0} (xs : List A) (n g : ℕ) → g ≡ length xs → ((n ≡ 0) × (g ≡ 0)) ⊎ ((n ≡ 1) × (g ≢ 0))
    → ((n ≡ 0) × (xs ≡ [])) ⊎ ((n ≡ 1) × (xs ≢ []))
turn_is xs n g e = grind (arith, ⊎_map, nil_from_length, none)

pub turn_next : {A : Type 0} (xs : List A) (n g : ℕ) → g ≡ length xs → ((n ≡ 0) × (g ≡ 0)) ⊎ ((n ≡ 1) × (g ≢ 0))
    → n ≡ next_turn xs
turn_next [] n g e turn = grind arith
turn_next (x ∷ xs) n g e turn = grind arith

turn_same : {A : Type 0} (xs : List A) → (next_turn xs == 0) ≡ (length xs == 0)
turn_same [] = refl
turn_same (x ∷ xs) = grind (arith, nat_tests)

module _ {W S I O : Type 0} (stands : S → List I → List O → W → Type 0) where
  -- a look that found another's word changes the look alone
  pub looks_once : (n k x y : ℕ) (m m' : Seated W S I O) → x ≡ y → x ≢ 0 → main_looks stands (step n k 0 0 none) m x m'
      → LooksOnce m.0 k y m'.0 × (m'.0.lines ≡ m.0.lines) × IsLeft m.0.lines k
  looks_once n k x y m m' is other l = rw (l.0.1 other) ((refl, refl, is, refl), refl, l.1 other)

  -- what came back, and the line after, once the cell cf was found as y and c' was left
  pub swaps : (told : S → List I → List O → Type 0)
      → ((s : S) (t : List I) (g : List O) (w : W) → stands s t g w → told s t g)
      → (n k a x : ℕ) (m0 me me' : Seated W S I O) (y cf c' : Cell W I O)
      → me ≡ (looked m0.0 k x (Some cf), (k, Some c') ∷ m0.1) → x ≡ 0 → y ≡ cf → hands_over (step n k a 0 none) me a me'
      → ReadyAt stands m0.0.lines k cf → (count : ℕ) (outs : List O) (items : List I) → count ≡ y.count
      → outs ≡ y.outs.items → c'.items.items ≡ items → a ≡ next_turn items
      → LooksOnce m0.0 k 0 me'.0 × ((l : Line S I O) × (get_elem? m0.0.lines k ≡ some l) × (count ≡ l.last)
      × told l.seed l.handed (l.back ++ outs) × (me'.0.lines ≡ set m0.0.lines k (swapped_line l outs items)))
      × (me'.0.left ≡ next_turn items)
  swaps told tells n k a x m0 me me' y cf c' e zero same h ready count outs items count-is outs-are items-are turn =
      let l = ready.0 in
      let outs-of : outs ≡ cf.outs.items = rw (← same) outs-are in
      let l-is : h.0 ≡ l = some-injective h.0 l (sym h.3 ∙ rw e ready.1) in
      let c-is : h.1 ≡ cf = same_Some h.1 cf (sym h.4 ∙ rw e) in
      let c'-is : h.2 ≡ c' = same_slot e h.5 in
      rw (h.6, e) (
        (refl, refl, zero, refl),
        (
          l,
          ready.1,
          rw (count-is, same) ready.2.1,
          rw outs-of (tells l.seed l.handed (l.back ++ cf.outs.items) cf.work ready.2.0),
          rw (l-is, c-is, c'-is, items-are, outs-of, turn, turn_same items),
        ),
        turn,
      )
