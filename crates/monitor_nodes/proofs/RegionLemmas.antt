-- Near rows and their parts.
use Rattle.std.proofs.Common.{◌≡◌, ℕ, Bool, true, ◌||◌, nat_eq, List, [], ◌∷◌, refl, arith}
use Rattle.std.proofs.lemmas.Bool.{or_left, or_right, or_cases, and_from}
use Rattle.mfotl_model.proofs.LogicLemmas.{among_joined, same_number}
use Rattle.mfotl_model.specs.{FreeVariables.among, FreeVariables.joined, Regions.Region, Regions.Passes}
use Rattle.mfotl_model.specs.{Satisfaction.Valuation, Tables.all_among}

-- near passes to the operands
pub near_left : (free : List ℕ) (near : Region) → Passes free near → (xs ys : List ℕ) (v : Valuation)
    → near (joined xs ys) v ≡ true → near xs v ≡ true
near_left free near passes xs ys v h = search (among_joined, or_left)

pub near_right : (free : List ℕ) (near : Region) → Passes free near → (xs ys : List ℕ) (v : Valuation)
    → near (joined xs ys) v ≡ true → near ys v ≡ true
near_right free near passes xs ys v h = search (among_joined, or_right)

-- variables each of which is among others
pub all_from_each : (wanted columns : List ℕ) → ((y : ℕ) → among y wanted ≡ true → among y columns ≡ true)
    → all_among wanted columns ≡ true
all_from_each [] columns each = refl
all_from_each (x ∷ wanted) columns each =
    and_from (among x columns) (all_among wanted columns)
    (each x (or_left_true (among x wanted) (same_number x)))
    (all_from_each wanted columns (λ y m. each y (or_right (nat_eq y x) (among y wanted) m)))
  where
    or_left_true : (b : Bool) → nat_eq x x ≡ true → (nat_eq x x || b) ≡ true
    or_left_true b e = or_left (nat_eq x x) b e

-- near passes to variables that are all among others
pub near_part : (free : List ℕ) (near : Region) → Passes free near → (xs ys : List ℕ)
    → ((y : ℕ) → among y xs ≡ true → among y ys ≡ true) → (v : Valuation) → near ys v ≡ true → near xs v ≡ true
near_part free near passes xs ys inside v h = passes ys xs v v (λ y m _. (inside y m, refl)) h

-- where the first variables are all among the second ones, both together are
pub joined_inside : (xs ys : List ℕ) → ((y : ℕ) → among y xs ≡ true → among y ys ≡ true)
    → all_among (joined xs ys) ys ≡ true
joined_inside xs ys inside = grind (arith, all_from_each, or_cases, among_joined)

pub right_inside : (xs ys : List ℕ) → all_among ys (joined xs ys) ≡ true
right_inside xs ys = search (all_from_each, among_joined, or_right)
