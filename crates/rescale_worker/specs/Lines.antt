-- What is due to a worker, entry by entry.
use Rattle.std.specs.Prelude.{ℕ, ◌+◌, cond, nat_lt, List, [], ◌∷◌, ◌++◌, map}
use Rattle.std.specs.List.{range_with_len}
use Rattle.mfotl_model.specs.Strategies.{Strategy, workers_of}
use Rattle.mfotl_model.specs.declared.event.TimePoint.{TimePoint}
use Rattle.monitorable.specs.CoreForms.{CoreForm}
use Rattle.monitor_state.specs.Verdicts.{MayFollow}
use Rattle.rescale_worker.specs.Workers.{IsFor}
use Rattle.rescale_worker.specs.declared.item.Entry.{Entry}
use Rattle.rescale_worker.specs.declared.item.Entry.TheVariants.{Point, Change}

-- a change of strategy; its generation is that of the new one
pub record ChangeOfStrategy : Type 0 where
  pub generation : ℕ
  pub old : Strategy
  pub new : Strategy
  pub before : List TimePoint

-- where reading stands
pub record Spot : Type 0 where
  pub generation : ℕ
  pub strategy : Strategy
  pub points : List TimePoint

-- what a worker is due to take: the slice of a time-point, the splitting of its state, or the j-th piece
-- of a place
pub data Due : Type 0 where
  Slicing : (generation : ℕ) → (s : Strategy) → (before : List TimePoint) → (point : TimePoint) → Due
  Parting : ChangeOfStrategy → Due
  Hole : ChangeOfStrategy → (j : ℕ) → Due

-- the change to this strategy
abbrev pub change_at : Spot → Strategy → ChangeOfStrategy
change_at a s = record { generation = a.generation + 1; old = a.strategy; new = s; before = a.points }

-- where reading stands after an entry
abbrev pub moved : Spot → Entry → Spot
moved a (Point p) = record { generation = a.generation; strategy = a.strategy; points = a.points ++ p ∷ [] }
moved a (Change s) = record { generation = a.generation + 1; strategy = s; points = a.points }

-- where reading stands before the first entry
abbrev pub first_spot : Strategy → Spot
first_spot s = record { generation = 0; strategy = s; points = [] }

-- where reading stands after all entries
abbrev pub spot_after : Spot → List Entry → Spot
spot_after a [] = a
spot_after a (e ∷ es) = spot_after (moved a e) es

-- what is due to worker k where there are more than k workers
abbrev pub if_below : ℕ → ℕ → List Due → List Due
if_below k n ds = cond (nat_lt k n) ds []

-- a place for as many pieces as there were workers
abbrev pub place : ChangeOfStrategy → List Due
place t = map (λ j. Hole t j) (range_with_len 0 (workers_of t.old))

-- what worker k is due by an entry
abbrev pub dues : ℕ → Spot → Entry → List Due
dues k a (Point p) =
    if_below k (workers_of a.strategy) (Slicing a.generation a.strategy a.points p ∷ [])
dues k a (Change s) =
    if_below k (workers_of a.strategy) (Parting (change_at a s) ∷ [])
    ++ if_below k (workers_of s) (place (change_at a s))

-- what worker k is due by all entries
abbrev pub line : ℕ → Spot → List Entry → List Due
line k a [] = []
line k a (e ∷ es) = dues k a e ++ line k (moved a e) es

-- the entry may be read: timestamps never fall, and a strategy is for the core
abbrev pub MayRead : CoreForm → Spot → Entry → Type 0
MayRead core a (Point p) = MayFollow a.points p
MayRead core a (Change s) = IsFor core s

-- the entries may be read one after the other
abbrev pub AreSound : CoreForm → Spot → List Entry → Type 0
AreSound core a [] = Unit {0}
AreSound core a (e ∷ es) = MayRead core a e × AreSound core (moved a e) es
