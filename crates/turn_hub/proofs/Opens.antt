-- The rule holds at the start, and a new hand keeps it.
use Rattle.std.proofs.Common.{◌≡◌, ◌⊎◌, ℕ, suc, zero, ◌<◌, List, [], ◌∷◌, ◌++◌, map, length, set, sym, refl, ◌∙◌, inl}
use Rattle.std.proofs.Common.{inr, ⊎_elim, arith, Option, Some, None}
use Rattle.std.proofs.{Math.Logic.⊎_map, lemmas.List.length-map, lemmas.Option.none-some}
use mathlib.Core.Option.{some, some-injective, some-ne-none}
use lib.ListN.{get_elem?}
use Rattle.std.specs.Prelude.{slice_index, All}
use Rattle.atomic_table.specs.Table.{State, opening, Splits}
use Rattle.atomic_table.proofs.Lists.{at_set, set_here, at_longer, at_map}
use Rattle.turn_hub.specs.declared.{view.Cell.Cell, view.View.View}
use Rattle.turn_hub.specs.{Rule.Ruled, Ends.IsFresh}
use Rattle.turn_hub.specs.Steps.{started, first_view, one_more, new_hand}
use Rattle.turn_hub.proofs.Keeps.{still_out, within}

module _ {A : Type 0} where
  pub at_end : (xs : List A) (a b : A) (j : ℕ) → get_elem? (xs ++ a ∷ []) j ≡ some b
      → (get_elem? xs j ≡ some b) ⊎ ((j ≡ length xs) × (a ≡ b))
  at_end [] a b zero e = inr (refl, some-injective a b e)
  at_end [] a b (suc j) e = absurd (some-ne-none b (sym e))
  at_end (x ∷ xs) a b zero e = inl e
  at_end (x ∷ xs) a b (suc j) e = let old = at_end xs a b j e in grind arith

  pub from_map : {B : Type 0} (f : A → B) (xs : List A) (k : ℕ) (y : B) → get_elem? (map f xs) k ≡ some y
      → (x : A) × (get_elem? xs k ≡ some x) × (f x ≡ y)
  from_map f [] k y e = absurd (some-ne-none y (sym e))
  from_map f (x ∷ xs) zero y e = (x, refl, some-injective (f x) y e)
  from_map f (x ∷ xs) (suc k) y e = from_map f xs k y e

module _ {W S I O : Type 0} (stands : S → List I → List O → W → Type 0) (may : S → List I → Type 0)
    (refused : W → Type 0) where
  pub opens : (seed : W → S) (works : List W) (words : List ℕ) (slots : List (Option (Cell W I O)))
      → ((s : S) → may s []) → ((k : ℕ) (w : W) → get_elem? works k ≡ some w → stands (seed w) [] [] w)
      → length words ≡ length works → ((k : ℕ) → k < length words → slice_index words k ≡ 0)
      → length slots ≡ length works → ((k : ℕ) (w : W) → get_elem? works k ≡ some w → IsFresh slots k w)
      → Ruled stands may refused (opening words slots (first_view seed works))
  opens seed works words slots none_may starts long zeros wide fresh =
      let homes = length-map slots some in record {
        main = first_view seed works;
        first = refl;
        no_hand = refl;
        wide = long ∙ sym wide ∙ sym homes;
        lined = length-map works (λ w. started (seed w)) ∙ sym wide ∙ sym homes;
        has = λ c e. absurd (none-some c e);
        each_cell = λ k l e. let t = from_map (λ w. started {I = I} {O = O} (seed w)) works k l e in
            let f = fresh k t.0 t.1 in
            let zero_word = zeros k (omega (arith, long, within works k t.0 t.1)) in
            rw (← t.2) record {
              known = omega (arith, zero_word);
              allowed = none_may (seed t.0);
              mine = λ _. zero_word;
              ready = λ _. inl (f.0, at_map some slots k (Some f.0) f.1, grind arith);
              due = λ one. absurd (omega (arith, zero_word, one));
              marked = λ two. absurd (omega (arith, zero_word, two));
            };
        each_hand = λ j v k seated num. absurd (alone j v k seated num);
        once = λ i j v w k seated _ num _. absurd (alone i v k seated num);
      }
    where
      alone : (j : ℕ) (v : View W S I O) (k : ℕ) → get_elem? (first_view {I = I} {O = O} seed works ∷ []) j ≡ some v
          → v.number ≡ Some k → ⊥
      alone zero v k seated num = grind arith
      alone (suc j) v k seated num = grind arith

  module _ (s : State (Option (Cell W I O)) (View W S I O)) (r : Ruled stands may refused s) where
    -- a seat with a number is an old hand, or the new one
    split : (j : ℕ) (u : View W S I O) (k : ℕ)
        → get_elem? (set s.views 0 (one_more r.main) ++ new_hand r.main ∷ []) j ≡ some u → u.number ≡ Some k
        → ((get_elem? s.views j ≡ some u) × (k < r.main.made))
        ⊎ ((j ≡ length (set s.views 0 (one_more r.main))) × (k ≡ r.main.made) × (u.has ≡ None))
    split j u k e num = grind (arith, ⊎_map, ⊎_elim, none-some, at_set, at_end)

    splits : Ruled stands may refused record {
      words = s.words;
      homes = s.homes;
      views = set s.views 0 (one_more r.main) ++ new_hand r.main ∷ [];
    }
    splits = let old = set s.views 0 (one_more r.main) in record {
      main = one_more r.main;
      first = at_longer old _ 0 (one_more r.main)
          (set_here s.views 0 (one_more r.main) (within s.views 0 r.main r.first));
      no_hand = r.no_hand;
      wide = r.wide;
      lined = r.lined;
      has = r.has;
      each_cell = λ k l e. let ok = r.each_cell k l e in record {
        known = ok.known;
        allowed = ok.allowed;
        mine = ok.mine;
        ready = ok.ready;
        due = λ one. ⊎_map (λ t. t)
            (λ o. let p = still_out s.views 0 r.main (one_more r.main) k r.first o (grind arith) in
            (p.0, p.1, at_longer old _ p.0 p.1 p.2, p.3, p.4)) (ok.due one);
        marked = ok.marked;
      };
      each_hand = λ j u k e num. ⊎_elim
          (λ t. record { below = omega (arith, t.1); has = (r.each_hand j u k t.0 num).has })
          (λ t. record { below = omega (arith, t.1); has = λ c h. absurd cc }) (split j u k e num);
      once = λ i j u y k e f num num'.
          let a = split i u k e num in
          let b = split j y k f num' in
          let old = r.once i j u y k in grind arith;
    }

  pub new_hands : (id : ℕ) (v : View W S I O) → id ≡ 0
      → Splits (Ruled stands may refused) id v (one_more v) (new_hand v)
  new_hands id v is_first s r seated = grind (arith, some-injective, splits)

-- what holds in each place holds of each
pub all_at : {A : Type 0} (P : A → Type 0) (xs : List A) → ((k : ℕ) (x : A) → get_elem? xs k ≡ some x → P x) → All P xs
all_at P [] f k d near = absurd (omega arith)
all_at P (x ∷ xs) f zero d near = f 0 x refl
all_at P (x ∷ xs) f (suc k) d near = all_at P xs (λ j y e. f (suc j) y e) k d (omega arith)
