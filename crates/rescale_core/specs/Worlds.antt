-- All that happened: what was read, handed over, taken, given, collected and emitted.
use Rattle.std.specs.Prelude.{◌≡◌, ℕ, ◌+◌, ◌<◌, ◌≤◌, cond, nat_eq, Option, Some, None}
use Rattle.std.specs.Prelude.{List, [], ◌∷◌, ◌++◌, length, map, take, drop}
use Rattle.mfotl_model.specs.Strategies.{Strategy, workers_of}
use Rattle.mfotl_model.specs.declared.event.TimePoint.{TimePoint}
use Rattle.monitorable.specs.CoreForms.{CoreForm}
use Rattle.verdict_merge.specs.Gathers.{rows_at}
use Rattle.verdict_merge.specs.declared.rows.Rows.{Rows}
use Rattle.verdict_merge.specs.declared.rows.Verdict.{Verdict}
use Rattle.monitor_state.specs.Verdicts.{settled_in, verdict_on}
use Rattle.monitor_state.specs.declared.state.Piece.{Piece}
use Rattle.rescale_worker.specs.Lines.{Spot, Due, moved, spot_after, first_spot, line, MayRead}
use Rattle.rescale_worker.specs.Lines.Due.{Slicing}
use Rattle.rescale_worker.specs.Phases.{Answers}
use Rattle.rescale_core.specs.Chances.{Chance, Standing}
use Rattle.rescale_core.specs.Handing.{chance, ready_items, standing}
use Rattle.rescale_worker.specs.declared.item.Entry.{Entry}
use Rattle.rescale_worker.specs.declared.item.Entry.TheVariants.{Point, Change}
use Rattle.rescale_worker.specs.declared.item.Item.{Item}
use Rattle.rescale_worker.specs.declared.item.Out.{Out}
use Rattle.rescale_worker.specs.declared.item.Out.TheVariants.{Rows as OfRows, Piece as OfPiece}

-- the slice of the n-th time-point
abbrev pub slice_at : Spot → List Entry → ℕ → Option Due
slice_at a [] n = None
slice_at a (Point p ∷ es) n =
    cond (nat_eq n (length a.points)) (Some (Slicing a.generation a.strategy a.points p))
    (slice_at (moved a (Point p)) es n)
slice_at a (Change s ∷ es) n = slice_at (moved a (Change s)) es n

-- the Rows among outs
abbrev pub rows_in : List Out → List Rows
rows_in [] = []
rows_in (OfRows r ∷ os) = r ∷ rows_in os
rows_in (OfPiece p ∷ os) = rows_in os

-- the pieces among outs
abbrev pub pieces_in : List Out → List Piece
pieces_in [] = []
pieces_in (OfRows r ∷ os) = pieces_in os
pieces_in (OfPiece p ∷ os) = p ∷ pieces_in os

-- What a worker was handed, how many of it it took, and what it gave; how many of the items were collected,
-- with what it gave for them.
pub record Seat : Type 0 where
  pub fed : List Item
  pub taken : ℕ
  pub outs : List Out
  pub collected : ℕ
  pub back : List Out

-- The core and the first strategy, what was read, each worker's seat, what was collected of pieces and Rows, in
-- this order, and the verdicts emitted.
pub record World : Type 0 where
  pub core : CoreForm
  pub first : Strategy
  pub read : List Entry
  pub seats : ℕ → Seat
  pub pieces : List Piece
  pub rows : List Rows
  pub emitted : List Verdict

-- the seat of a worker that was handed nothing
abbrev pub first_seat : Seat
first_seat = record { fed = []; taken = 0; outs = []; collected = 0; back = [] }

-- the world in which nothing happened
abbrev pub first_world : CoreForm → Strategy → World
first_world core s =
    record {
      core = core;
      first = s;
      read = [];
      seats = λ k. first_seat;
      pieces = [];
      rows = [];
      emitted = [];
    }

-- what worker k is due by what was read
abbrev pub line_in : World → ℕ → List Due
line_in w k = line k (first_spot w.first) w.read

-- where reading stands
abbrev pub spot_in : World → Spot
spot_in w = spot_after (first_spot w.first) w.read

-- worker k's queue: what is due and wasn't handed over
abbrev pub queue_in : World → ℕ → List Chance
queue_in w k = map (chance w.core k w.pieces) (drop (length (w.seats k).fed) (line_in w k))

-- how that stands to the places for pieces
abbrev pub standings_in : World → ℕ → List Standing
standings_in w k = map standing (drop (length (w.seats k).fed) (line_in w k))

-- what may be handed to worker k now
abbrev pub ready_in : World → ℕ → List Item
ready_in w k = ready_items w.core k w.pieces (drop (length (w.seats k).fed) (line_in w k))

-- the seats, where worker k has another one
abbrev pub set_seat : (ℕ → Seat) → ℕ → Seat → ℕ → Seat
set_seat seats k s q = cond (nat_eq q k) s (seats q)

-- a step, what happens next: an entry is read, worker k is handed an item, takes one and gives outs, what worker k
-- gave is collected, or a verdict is emitted
pub data Step : Type 0 where
  Read : Entry → Step
  Feed : ℕ → Item → Step
  Take : ℕ → List Out → Step
  Collect : ℕ → Step
  Emit : Verdict → Step

-- the seat with one item handed over more
abbrev pub fed_more : Seat → Item → Seat
fed_more s i = record s { fed = s.fed ++ i ∷ [] }

-- the seat with one item taken more
abbrev pub took_one : Seat → List Out → Seat
took_one s gave = record s { taken = s.taken + 1; outs = s.outs ++ gave }

-- the seat of which all is collected
abbrev pub all_collected : Seat → Seat
all_collected s = record s { collected = s.taken; back = s.outs }

-- what the worker gave and wasn't collected
abbrev pub not_back : Seat → List Out
not_back s = drop (length s.back) s.outs

-- the world after a step
abbrev pub world_after : World → Step → World
world_after w (Read e) = record w { read = w.read ++ e ∷ [] }
world_after w (Feed k i) = record w { seats = set_seat w.seats k (fed_more (w.seats k) i) }
world_after w (Take k gave) = record w { seats = set_seat w.seats k (took_one (w.seats k) gave) }
world_after w (Collect k) =
    record w {
      seats = set_seat w.seats k (all_collected (w.seats k));
      pieces = w.pieces ++ pieces_in (not_back (w.seats k));
      rows = w.rows ++ rows_in (not_back (w.seats k));
    }
world_after w (Emit v) = record w { emitted = w.emitted ++ v ∷ [] }

-- all workers of the generation with whose time-point the position is settled gave their Rows for it, and these
-- were collected
abbrev pub GatheredIn : CoreForm → Strategy → List Entry → List Rows → ℕ → Type 0
GatheredIn core first read rows i =
    (g : ℕ) × (s : Strategy) × (log : List TimePoint) × (p : TimePoint)
    × (slice_at (first_spot first) read (length log) ≡ Some (Slicing g s log p))
    × (settled_in core log ≤ i)
    × (i < settled_in core (log ++ p ∷ []))
    × (length (rows_at i rows) ≡ workers_of s)

-- the same in a world
abbrev pub IsGathered : World → ℕ → Type 0
IsGathered w i = GatheredIn w.core w.first w.read w.rows i

-- the step may come
abbrev pub Allowed : World → Step → Type 0
Allowed w (Read e) = MayRead w.core (spot_in w) e
Allowed w (Feed k i) = (rest : List Item) × (ready_in w k ≡ i ∷ rest)
Allowed w (Take k gave) =
    ((w.seats k).taken < length (w.seats k).fed)
    × Answers w.core k (take ((w.seats k).taken + 1) (line_in w k)) ((w.seats k).outs ++ gave)
Allowed w (Collect k) = (w.seats k).collected < (w.seats k).taken
Allowed w (Emit v) = (v ≡ verdict_on w.core (spot_in w).points (length w.emitted)) × IsGathered w (length w.emitted)

-- the world after these steps
abbrev pub run_steps : World → List Step → World
run_steps w [] = w
run_steps w (s ∷ ss) = run_steps (world_after w s) ss

-- the steps may come one after the other
abbrev pub AreAllowed : World → List Step → Type 0
AreAllowed w [] = Unit {0}
AreAllowed w (s ∷ ss) = Allowed w s × AreAllowed (world_after w s) ss
