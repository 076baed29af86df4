-- An example of who gets which hands.
use Rattle.std.specs.Prelude.{◌≡◌, ℕ, List, [], ◌∷◌}
use Rattle.hub_threads.specs.Hands.{dealt}

-- five cells dealt to two threads
abbrev pub FiveDealtToTwo : Type 0
FiveDealtToTwo = let five : List ℕ = 0 ∷ 1 ∷ 2 ∷ 3 ∷ 4 ∷ [] in dealt 2 five ≡ (0 ∷ 2 ∷ 4 ∷ []) ∷ (1 ∷ 3 ∷ []) ∷ []
