-- The hands that a thread or main serves.
use Rattle.std.specs.Prelude.{◌≡◌, ◌+◌, ◌-◌, ℕ, zero, suc, Bool, List, [], ◌∷◌, Vec, length, map, min, nat_eq, All}
use Rattle.std.specs.Global.{Global}
use Rattle.std.specs.List.{list_any, range_with_len}
use Rattle.turn_hub.specs.{Ends.IsHandOf, Ends.hand_cell, Ends.hand_view, Words.hand_turn}
use Rattle.turn_hub.specs.declared.hub.Hand.{Hand}
use Rattle.turn_hub.specs.declared.hub.Hub.{Hub}

-- each is a hand of the hub
unfoldable pub AreHandsOf : {W I O S : Type 0} → Hub W I O S → List (Hand W I O S) → Type 0
AreHandsOf hub hands = All (λ h. IsHandOf hub h) hands

-- in each group are hands of the hub
abbrev pub AreGroupsOf : {W I O S : Type 0} → Hub W I O S → List (Vec (Hand W I O S) Global) → Type 0
AreGroupsOf hub groups = All (λ g. AreHandsOf hub g.items) groups

-- the cells that the hands serve
abbrev pub cells_of : {W I O S : Type 0} → List (Hand W I O S) → List ℕ
cells_of hands = map (λ h. hand_cell h) hands

-- hands of this hub, of just these cells
abbrev pub Serve : {W I O S : Type 0} → Hub W I O S → List ℕ → List (Hand W I O S) → Type 0
Serve hub cells hands = AreHandsOf hub hands × (cells_of hands ≡ cells)

-- how often each of the hands looked whose turn it is
abbrev pub looks_of : {W I O S : Type 0} → List (Hand W I O S) → List ℕ
looks_of hands = map (λ h. (hand_view h).looks) hands

-- each of the hands looked so many times more
abbrev pub LookedMore : {W I O S : Type 0} → ℕ → List (Hand W I O S) → List (Hand W I O S) → Type 0
LookedMore count before now = looks_of now ≡ map (λ looks. looks + count) (looks_of before)

-- each of the hands looked once more
abbrev pub LookedOnce : {W I O S : Type 0} → List (Hand W I O S) → List (Hand W I O S) → Type 0
LookedOnce before now = LookedMore 1 before now

-- one of the hands found at its last look that it was its turn
abbrev pub any_found_its_turn : {W I O S : Type 0} → List (Hand W I O S) → Bool
any_found_its_turn hands = list_any (λ h. nat_eq (hand_view h).word hand_turn) hands

-- the cells that each group's hands serve
abbrev pub group_cells : {W I O S : Type 0} → List (Vec (Hand W I O S) Global) → List (List ℕ)
group_cells groups = map (λ g. cells_of g.items) groups

-- the elements at the places k, k + n, k + 2n and so on
abbrev pub every_nth : {X : Type 0} → ℕ → ℕ → List X → List X
every_nth n k [] = []
every_nth n zero (x ∷ xs) = x ∷ every_nth n (n - 1) xs
every_nth n (suc k) (x ∷ xs) = every_nth n k xs

-- what each of n gets where the elements are dealt one after the other, round by round
abbrev pub dealt : {X : Type 0} → ℕ → List X → List (List X)
dealt n xs = map (λ t. every_nth n t xs) (range_with_len 0 n)

-- what the dealer keeps: all where there is nobody to deal to
abbrev pub undealt : {X : Type 0} → ℕ → List X → List X
undealt zero xs = xs
undealt (suc n) xs = []

-- The hands of these cells are dealt to the threads, and main has the others; a thread without a hand is left out.
pub record AreDealt {W I O S : Type 0} (cells : List ℕ) (threads : ℕ) (groups : List (Vec (Hand W I O S) Global))
    (own : List (Hand W I O S)) : Type 0 where
  pub groups_are : group_cells groups ≡ dealt (min (length cells) threads) cells
  pub own_are : cells_of own ≡ undealt (min (length cells) threads) cells
