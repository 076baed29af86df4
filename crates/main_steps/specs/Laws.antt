-- Laws and an example of what is read by a plan.
use Rattle.std.specs.Prelude.{◌≡◌, ◌+◌, ◌≤◌, ◌<◌, ℕ, List, [], ◌∷◌, ◌++◌, map, take, drop, length}
use Rattle.std.specs.List.{AllByRecursion}
use Rattle.mfotl_model.specs.Strategies.{Strategy}
use Rattle.mfotl_model.specs.declared.event.TimePoint.{TimePoint}
use Rattle.rescale_worker.specs.declared.item.Entry.{Entry}
use Rattle.rescale_worker.specs.declared.item.Entry.TheVariants.{Point, Change as ToStrategy}
use Rattle.slice_strategy.specs.declared.change.Change.{Change}
use Rattle.main_steps.specs.Changes.{IsDue, NoneDue, entries_by, left_by, points_in, strategies_in}
use Rattle.main_steps.specs.declared.schedule.Schedule.{Schedule}

-- the next change is due where as many time-points were read as its number says, and not where one fewer was
pub record DueAtItsNumber : Type 0 where
  pub due : (s : Schedule) (c : Change) (rest : List Change) → s.changes.items ≡ c ∷ rest → s.routed ≡ c.before
      → IsDue s
  pub early : (s : Schedule) (c : Change) (rest : List Change) → s.changes.items ≡ c ∷ rest
      → s.routed + 1 ≡ c.before → NoneDue s

-- changes of the numbers 0, 2, 2 and 3
abbrev pub four_changes : Strategy → Strategy → Strategy → Strategy → List Change
four_changes s t u v =
    record { before = 0; strategy = s } ∷ record { before = 2; strategy = t } ∷ record { before = 2; strategy = u }
    ∷ record { before = 3; strategy = v } ∷ []

-- With three time-points the first change is made at once, the next two before the last time-point, and the fourth, for
-- which there is no time-point, is to come.
pub record ChangesOfThree : Type 0 where
  pub read : (s t u v : Strategy) (p q r : TimePoint) → entries_by (four_changes s t u v) (p ∷ q ∷ r ∷ [])
      ≡ ToStrategy s ∷ Point p ∷ Point q ∷ ToStrategy t ∷ ToStrategy u ∷ Point r ∷ []
  pub left : (s t u v : Strategy) (p q r : TimePoint) → left_by (four_changes s t u v) (p ∷ q ∷ r ∷ [])
      ≡ record { before = 3; strategy = v } ∷ []

-- each time-point is read, once and in order
abbrev pub EachPointOnce : Type 0
EachPointOnce = (changes : List Change) (points : List TimePoint) → points_in (entries_by changes points) ≡ points

-- the changes are made in their order, and those that aren't made are to come
abbrev pub EachChangeInOrder : Type 0
EachChangeInOrder = (changes : List Change) (points : List TimePoint)
    → strategies_in (entries_by changes points) ++ map (λ (c : Change). c.strategy) (left_by changes points)
    ≡ map (λ (c : Change). c.strategy) changes

-- Of these changes just the first m are to be made before time-point n: each of them has its number or a lower one, and
-- the next one's number is higher.
pub record AreDue (n m : ℕ) (changes : List Change) : Type 0 where
  pub made : AllByRecursion (λ (c : Change). c.before ≤ n) (take m changes)
  pub next : (c : Change) (rest : List Change) → drop m changes ≡ c ∷ rest → n < c.before

-- before each time-point just those changes were made that are to be made before it
abbrev pub EachJustBefore : Type 0
EachJustBefore = (changes : List Change) (points : List TimePoint) (front : List Entry) (p : TimePoint)
    (back : List Entry) → entries_by changes points ≡ front ++ Point p ∷ back
    → AreDue (length (points_in front)) (length (strategies_in front)) changes

-- behind each change that is made a time-point is read
abbrev pub NoneBehindTheLast : Type 0
NoneBehindTheLast = (changes : List Change) (points : List TimePoint) (front : List Entry) (s : Strategy)
    (back : List Entry) → entries_by changes points ≡ front ++ ToStrategy s ∷ back → 0 < length (points_in back)
