-- Queues of items that come in the order of a number of theirs.
use Rattle.std.specs.Prelude.{◌≡◌, ℕ, true, nat_le, List, [], ◌∷◌}
use Rattle.std.specs.List.{list_all}

-- the numbers never fall
abbrev pub RisesBy : {X : Type 0} → (X → ℕ) → List X → Type 0
RisesBy f [] = Unit {0}
RisesBy f (x ∷ xs) = (list_all (λ y. nat_le (f x) (f y)) xs ≡ true) × RisesBy f xs
