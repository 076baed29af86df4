-- Lists of numbers, as those of workers.
use Rattle.std.specs.Prelude.{◌≢◌, ℕ, ◌<◌, ⊤, List, [], ◌∷◌}
use Rattle.std.specs.List.{AllByRecursion}

-- the number is none of these
abbrev pub NotIn : ℕ → List ℕ → Type 0
NotIn n ks = AllByRecursion (λ k. n ≢ k) ks

-- no number stands twice
abbrev pub Apart : List ℕ → Type 0
Apart [] = ⊤
Apart (k ∷ ks) = NotIn k ks × Apart ks

-- each of the numbers is below n
abbrev pub AllBelow : ℕ → List ℕ → Type 0
AllBelow n ks = AllByRecursion (λ k. k < n) ks
