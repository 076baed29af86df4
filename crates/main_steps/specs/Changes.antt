-- Changes of the strategy while the log is read.
use Rattle.std.specs.Prelude.{◌≡◌, ◌≤◌, ◌<◌, ◌+◌, ℕ, Bool, true, false, cond, nat_le, List, [], ◌∷◌, ◌++◌, Option, Some}
use Rattle.std.specs.Prelude.{None, All}
use Rattle.std.specs.List.{AllByRecursion}
use Rattle.mfotl_model.specs.Strategies.{Strategy, workers_of}
use Rattle.mfotl_model.specs.declared.event.TimePoint.{TimePoint}
use Rattle.monitorable.specs.CoreForms.{CoreForm}
use Rattle.slice_strategy.specs.declared.change.Change.{Change}
use Rattle.rescale_core.specs.Moving.{core_of}
use Rattle.rescale_worker.specs.Workers.{IsFor}
use Rattle.rescale_core.specs.declared.driver.Driver.{Driver}
use Rattle.rescale_worker.specs.declared.item.Entry.{Entry}
use Rattle.rescale_worker.specs.declared.item.Entry.TheVariants.{Point, Change as ToStrategy}
use Rattle.main_steps.specs.declared.schedule.Schedule.{Schedule}

-- each change is to a strategy for the core
abbrev pub AllSuit : CoreForm → List Change → Type 0
AllSuit core changes = AllByRecursion (λ c. IsFor core c.strategy) changes

-- each change that is to come is to a strategy for the driver's core
abbrev pub Suits : Driver → Schedule → Type 0
Suits d schedule = AllSuit (core_of d) schedule.changes.items

-- there is a cell for each worker of each strategy that is to come
abbrev pub HaveCells : ℕ → Schedule → Type 0
HaveCells cells schedule = All (λ (c : Change). workers_of c.strategy ≤ cells) schedule.changes.items

-- the first change, if there is one, is to be made behind more time-points than were read
abbrev pub NoneDue : Schedule → Type 0
NoneDue schedule = (c : Change) (rest : List Change) → schedule.changes.items ≡ c ∷ rest → schedule.routed < c.before

-- the first change is to be made before the next time-point is read
pub record IsDue (schedule : Schedule) : Type 0 where
  pub change : Change
  pub rest : List Change
  pub first : schedule.changes.items ≡ change ∷ rest
  pub reached : change.before ≤ schedule.routed

-- the answer tells which of both it is
abbrev pub DueTells : Schedule → Bool → Type 0
DueTells schedule true = IsDue schedule
DueTells schedule false = NoneDue schedule

-- The first change was taken, as it is to be made before the next time-point is read; or none is, and all stays.
abbrev pub TakesDue : Schedule → Option Strategy → Schedule → Type 0
TakesDue old None new = NoneDue old × (new ≡ old)
TakesDue old (Some s) new =
    (due : IsDue old) × (s ≡ due.change.strategy) × (new.changes.items ≡ due.rest) × (new.routed ≡ old.routed)

-- the changes at the front that are made before time-point n is read, as they are read
abbrev pub changes_due : ℕ → List Change → List Entry
changes_due n [] = []
changes_due n (c ∷ changes) = cond (nat_le c.before n) (ToStrategy c.strategy ∷ changes_due n changes) []

-- the changes that are to come behind these
abbrev pub changes_later : ℕ → List Change → List Change
changes_later n [] = []
changes_later n (c ∷ changes) = cond (nat_le c.before n) (changes_later n changes) (c ∷ changes)

-- What is read of time-points that stand behind n others: just before each the changes that are due.
abbrev pub entries_behind : ℕ → List Change → List TimePoint → List Entry
entries_behind n changes [] = []
entries_behind n changes (p ∷ points) =
    changes_due n changes ++ Point p ∷ entries_behind (n + 1) (changes_later n changes) points

-- the changes that are to come behind these time-points
abbrev pub left_behind : ℕ → List Change → List TimePoint → List Change
left_behind n changes [] = changes
left_behind n changes (p ∷ points) = left_behind (n + 1) (changes_later n changes) points

-- what is read of a log's first time-points: each change just before the time-point of its number
abbrev pub entries_by : List Change → List TimePoint → List Entry
entries_by changes points = entries_behind 0 changes points

-- the changes that are to come then
abbrev pub left_by : List Change → List TimePoint → List Change
left_by changes points = left_behind 0 changes points

-- the time-points among entries
abbrev pub points_in : List Entry → List TimePoint
points_in [] = []
points_in (Point p ∷ entries) = p ∷ points_in entries
points_in (ToStrategy s ∷ entries) = points_in entries

-- the strategies among them
abbrev pub strategies_in : List Entry → List Strategy
strategies_in [] = []
strategies_in (Point p ∷ entries) = strategies_in entries
strategies_in (ToStrategy s ∷ entries) = s ∷ strategies_in entries
