-- Lists of hands of a hub.
use Rattle.std.specs.Prelude.{◌≡◌, ℕ, List, Vec, [], ◌∷◌, ◌++◌, All, slice_index_or, slice_set}
use Rattle.std.specs.Global.{Global}
use Rattle.std.proofs.{Common.◌∙◌, Common.ap, Math.Seq.map-set_same}
use Rattle.std.proofs.lemmas.List.Elements.{All-nil, All-cons, All-head, All-tail, All-append, All-set}
use Rattle.turn_hub.specs.Ends.{IsHandOf, hand_cell}
use Rattle.turn_hub.specs.declared.{hub.Hand.Hand, hub.Hub.Hub}
use Rattle.hub_threads.specs.Hands.{AreGroupsOf, AreHandsOf, Serve}

module _ {W I O S : Type 0} where
  -- no hands are a hub's
  pub no_hands : (hub : Hub W I O S) → AreHandsOf hub []
  unfolding AreHandsOf
  no_hands hub = All-nil (λ h. IsHandOf hub h)

  -- hands of a hub beside others of it
  pub more_hands : (hub : Hub W I O S) (xs ys : List (Hand W I O S)) → AreHandsOf hub xs → AreHandsOf hub ys
      → AreHandsOf hub (xs ++ ys)
  unfolding AreHandsOf
  more_hands hub xs ys a b = All-append (λ h. IsHandOf hub h) xs ys a b

  -- the first of a hub's hands, alone
  pub first_hand : (hub : Hub W I O S) (x : Hand W I O S) (xs : List (Hand W I O S)) → AreHandsOf hub (x ∷ xs)
      → AreHandsOf hub (x ∷ [])
  unfolding AreHandsOf
  first_hand hub x xs a =
      All-cons (λ h. IsHandOf hub h) x [] (All-head (λ h. IsHandOf hub h) x xs a) (All-nil (λ h. IsHandOf hub h))

  -- the hands behind the first
  pub later_hands : (hub : Hub W I O S) (x : Hand W I O S) (xs : List (Hand W I O S)) → AreHandsOf hub (x ∷ xs)
      → AreHandsOf hub xs
  unfolding AreHandsOf
  later_hands hub x xs a = All-tail (λ h. IsHandOf hub h) x xs a

  -- hands of which each is a hub's
  pub all_hands : (hub : Hub W I O S) (xs : List (Hand W I O S)) → All (λ h. IsHandOf hub h) xs → AreHandsOf hub xs
  unfolding AreHandsOf
  all_hands hub xs a = a

  -- a hand of a hub in the place of another one of its cell
  pub set_hand : (hub : Hub W I O S) (cells : List ℕ) (hands : List (Hand W I O S)) (k : ℕ) (hand new : Hand W I O S)
      → hand ≡ slice_index_or hands k hand → IsHandOf hub new → hand_cell new ≡ hand_cell hand → Serve hub cells hands
      → Serve hub cells (slice_set hands k new)
  unfolding AreHandsOf
  set_hand hub cells hands k hand new at is same serve =
      let cell : (Hand W I O S → ℕ) = (λ h. hand_cell h) in (
        All-set (λ h. IsHandOf hub h) hands k new is serve.0,
        map-set_same cell hands k new hand (same ∙ ap cell at) ∙ serve.1,
      )

  -- no groups are a hub's
  pub no_groups : (hub : Hub W I O S) → AreGroupsOf hub []
  no_groups hub = All-nil (λ g. AreHandsOf hub g.items)

  -- a group of a hub behind others of it
  pub more_groups : (hub : Hub W I O S) (gs : List (Vec (Hand W I O S) Global)) (g : Vec (Hand W I O S) Global)
      → AreGroupsOf hub gs → AreHandsOf hub g.items → AreGroupsOf hub (gs ++ g ∷ [])
  more_groups hub gs g are is =
      let P : (Vec (Hand W I O S) Global → Type 0) = (λ g. AreHandsOf hub g.items) in
      All-append P gs (g ∷ []) are (All-cons P g [] is (All-nil P))

  -- a group of a hub in the place of another one
  pub set_group : (hub : Hub W I O S) (gs : List (Vec (Hand W I O S) Global)) (i : ℕ) (g : Vec (Hand W I O S) Global)
      → AreGroupsOf hub gs → AreHandsOf hub g.items → AreGroupsOf hub (slice_set gs i g)
  set_group hub gs i g are is = All-set (λ g. AreHandsOf hub g.items) gs i g is are
