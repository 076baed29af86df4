-- The Rows that wait in slots, one for each time-point, and the order in which they came.
use Rattle.std.specs.Prelude.{◌≡◌, ℕ, zero, suc, ◌+◌, ◌<◌, nat_eq, List, [], ◌∷◌, ◌++◌, map, filter, Option, Some, None}
use Rattle.std.specs.List.{AllByRecursion}
use Rattle.verdict_merge.specs.declared.arrived.Arrived.{Arrived}
use Rattle.verdict_merge.specs.declared.rows.Rows.{Rows}

-- the number of the next time-point, and the Rows that wait, in the order in which they came
pub record WaitingOf : Type 0 where
  pub next : ℕ
  pub added : List Rows

-- the first of a list
abbrev pub first_of : {X : Type 0} → List X → Option X
first_of [] = None
first_of (x ∷ xs) = Some x

-- what a slot holds
abbrev pub held : Option (List Arrived) → List Arrived
held None = []
held (Some group) = group

-- all that is held
abbrev pub all_held : List (List Arrived) → List Arrived
all_held [] = []
all_held (all ∷ more) = all ++ all_held more

-- what the first slot holds
abbrev pub first_held : List (List Arrived) → List Arrived
first_held [] = []
first_held (all ∷ more) = all

-- the Rows of a number
abbrev pub rows_of_number : ℕ → List Arrived → List Rows
rows_of_number n all = map (λ a. a.rows) (filter (λ a. nat_eq a.number n) all)

-- the Rows of the numbers below a bound, by their numbers
abbrev pub by_numbers : ℕ → List Arrived → List Rows
by_numbers zero all = []
by_numbers (suc n) all = by_numbers n all ++ rows_of_number n all

-- the slots once Rows were put into one
abbrev pub put_in : ℕ → Arrived → List (List Arrived) → List (List Arrived)
put_in zero a [] = (a ∷ []) ∷ []
put_in zero a (all ∷ more) = (all ++ a ∷ []) ∷ more
put_in (suc i) a [] = [] ∷ put_in i a []
put_in (suc i) a (all ∷ more) = all ∷ put_in i a more

-- a slot's Rows are of its time-point, have numbers below a bound, and stand in the order in which they came
pub record IsSlot (count point : ℕ) (all : List Arrived) : Type 0 where
  pub points : AllByRecursion (λ a. a.rows.point ≡ point) all
  pub numbers : AllByRecursion (λ a. a.number < count) all
  pub order : by_numbers count all ≡ map (λ a. a.rows) all

-- the slots are those of the time-points from a first on
abbrev pub AreSlots : ℕ → ℕ → List (List Arrived) → Type 0
AreSlots count point [] = Unit {0}
AreSlots count point (all ∷ more) = IsSlot count point all × AreSlots count (point + 1) more
