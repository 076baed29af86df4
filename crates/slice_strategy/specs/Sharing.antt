-- Something given to the workers that pass a test, one after another: which one is next, and what all have then.
use Rattle.std.specs.Prelude.{◌≡◌, ℕ, ◌+◌, ◌<◌, ◌≤◌, Bool, true, cond, List, [], ◌∷◌, Option, IfSome}
use Rattle.slice_strategy.specs.Slicers.{NoneFrom, end_of}

-- what was found is the first number from `from` on, below count, that passes the test; None where none does
pub record IsFirst (test : ℕ → Bool) (from count : ℕ) (found : Option ℕ) : Type 0 where
  pub reached : IfSome found (λ k. (from ≤ k) × (k < count))
  pub passes : IfSome found (λ k. test k ≡ true)
  pub first : NoneFrom from (end_of count found) test

-- the parts, of which those whose numbers, counted from y, pass the test were given something
abbrev pub given_to : {P : Type 0} → (P → P) → (ℕ → Bool) → ℕ → List P → List P
given_to give test y [] = []
given_to give test y (part ∷ parts) = cond (test y) (give part) part ∷ given_to give test (y + 1) parts
