-- Hands that are served one after the other.
use Rattle.std.proofs.Common.{◌≡◌, ◌≢◌, ◌∙◌, ap, ap₂, sym, refl, ℕ, ◌+◌, ◌<◌, Bool, true, false, ◌||◌, List, [], ◌∷◌}
use Rattle.std.proofs.Common.{◌++◌, length, map, get_or, take, drop, set, nat_eq, arith}
use Rattle.std.proofs.lemmas.Bool.{eq-eqb, ne_eqb, or_right}
use Rattle.std.proofs.lemmas.{List.Edits.map_over_more, List.Folds.list_any_more}
use Rattle.std.proofs.lemmas.List.{get_or-map, get_or-set_same, length-map, length-set, map-set, take-set}
use Rattle.turn_hub.specs.{Answers.ServedAs, Ends.hand_cell, Ends.hand_view, Words.hand_turn}
use Rattle.turn_hub.specs.declared.{hub.Hand.Hand, hub.Served.Served, view.View.View}
use Rattle.turn_hub.specs.declared.hub.Served.TheVariants.{Worked, NotGiven, Memory}
use Rattle.hub_threads.specs.Hands.{LookedMore, any_found_its_turn, cells_of, looks_of}

module _ {W I O S : Type 0} (refused : W → Type 0) (v w : View W S I O) (k : ℕ) where
  -- whoever serves looks once
  looks_once : (answer : Served) → ServedAs refused v k answer w → w.looks ≡ v.looks + 1
  looks_once (Worked n) did = did.0.0
  looks_once NotGiven did = did.1.0
  looks_once Memory did = did.0.0

  -- it found its turn, unless it answers that it was not
  finds : (answer : Served) → answer ≢ NotGiven → ServedAs refused v k answer w → nat_eq w.word hand_turn ≡ true
  finds (Worked n) other did = eq-eqb w.word hand_turn did.0.2
  finds NotGiven other did = absurd (other refl)
  finds Memory other did = eq-eqb w.word hand_turn did.0.2

  finds_not : (answer : Served) → answer ≡ NotGiven → ServedAs refused v k answer w → nat_eq w.word hand_turn ≡ false
  finds_not (Worked n) is did = absurd cc
  finds_not NotGiven is did = ne_eqb w.word hand_turn did.0
  finds_not Memory is did = absurd cc

or_false : (a b : Bool) → b ≡ false → (a || b) ≡ a
or_false true b e = refl
or_false false b e = e

-- the hand k was served, and is in the place of the one that was there
module _ {W I O S : Type 0} (refused : W → Type 0) (hands : List (Hand W I O S)) (k : ℕ) (hand new : Hand W I O S)
    (answer : Served) (below : k < length hands)
    (did : ServedAs refused (hand_view hand) (hand_cell hand) answer (hand_view new)) where
  -- one hand more looked once more
  pub one_looked : (before : List (Hand W I O S)) → hand ≡ get_or hands k hand → cells_of hands ≡ cells_of before
      → looks_of hands ≡ map (λ looks. looks + 1) (take k (looks_of before)) ++ drop k (looks_of before)
      → looks_of (set hands k new)
      ≡ map (λ looks. looks + 1) (take (k + 1) (looks_of before)) ++ drop (k + 1) (looks_of before)
  one_looked before at same served =
      let looks : (Hand W I O S → ℕ) = (λ h. (hand_view h).looks) in
      let long : length hands ≡ length before =
      sym (length-map hands (λ h. hand_cell h)) ∙ ap (λ cells. length cells) same
      ∙ length-map before (λ h. hand_cell h) in
      let once = looks_once refused (hand_view hand) (hand_view new) (hand_cell hand) answer did in
      map-set looks hands k new ∙ ap (λ n. set (looks_of hands) k n) once
      ∙ map_over_more (λ looks. looks + 1) (looks_of before) (looks_of hands) k (looks hand)
      (omega (arith, long, length-map before looks)) served
      (ap looks at ∙ sym (get_or-map looks hands k hand (looks hand) below))

  -- one of the first hands found its turn where the last of them did, or one before it
  last_more : any_found_its_turn (take (k + 1) (set hands k new))
      ≡ (any_found_its_turn (take k hands) || nat_eq (hand_view new).word hand_turn)
  last_more =
      let p : (Hand W I O S → Bool) = (λ h. nat_eq (hand_view h).word hand_turn) in
      rw (take-set hands k new, get_or-set_same hands k new new below) at
      (list_any_more p (set hands k new) k new (omega (arith, length-set hands k new)))

  pub one_found : answer ≢ NotGiven → any_found_its_turn (take (k + 1) (set hands k new)) ≡ true
  one_found other = last_more ∙ or_right _ _
      (finds refused (hand_view hand) (hand_view new) (hand_cell hand) answer other did)

  pub none_found : answer ≡ NotGiven
      → any_found_its_turn (take (k + 1) (set hands k new)) ≡ any_found_its_turn (take k hands)
  none_found is = last_more ∙ or_false _ _
      (finds_not refused (hand_view hand) (hand_view new) (hand_cell hand) answer is did)

-- ---- how often hands looked

adds_none : (ns : List ℕ) → ns ≡ map (λ n. n + 0) ns
adds_none [] = refl
adds_none (n ∷ ns) = ap₂ (λ k ks. k ∷ ks) (omega arith) (adds_none ns)

adds_both : (a b : ℕ) (ns : List ℕ) → map (λ n. n + b) (map (λ n. n + a) ns) ≡ map (λ n. n + (a + b)) ns
adds_both a b [] = refl
adds_both a b (n ∷ ns) = ap₂ (λ k ks. k ∷ ks) (omega arith) (adds_both a b ns)

module _ {W I O S : Type 0} where
  -- hands that are as they were did not look
  pub looked_not : (hands : List (Hand W I O S)) → LookedMore 0 hands hands
  looked_not hands = adds_none (looks_of hands)

  -- those that looked a times more and then b times
  pub looked_on : (a b : ℕ) (first hands last : List (Hand W I O S)) → LookedMore a first hands
      → LookedMore b hands last → LookedMore (a + b) first last
  looked_on a b first hands last before behind =
      behind ∙ ap (λ ns. map (λ n. n + b) ns) before ∙ adds_both a b (looks_of first)
