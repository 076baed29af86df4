-- Elements dealt among workers: a worker's share has those that go to it, in their order.
use Rattle.std.specs.Prelude.{◌≡◌, ℕ, ◌+◌, List, [], ◌∷◌, ◌++◌, length}
use Rattle.relations.specs.Pushed.{StandFrom}

-- there is one of the items for each of so many workers, in their order
pub record OneEach {X : Type 0} (count : ℕ) (P : ℕ → X → Type 0) (xs : List X) : Type 0 where
  pub sized : length xs ≡ count
  pub each : StandFrom P 0 xs

-- the share with the element behind those that it has
abbrev pub with_last : {X : Type 0} → X → List X → List X
with_last x share = share ++ x ∷ []

-- behind those in each of the shares an element of its own
abbrev pub each_longer : {X : Type 0} → List (List X) → List X → List (List X)
each_longer [] xs = []
each_longer (share ∷ shares) [] = share ∷ shares
each_longer (share ∷ shares) (x ∷ xs) = (share ++ x ∷ []) ∷ each_longer shares xs
