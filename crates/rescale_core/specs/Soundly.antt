-- What holds in each world that steps reach.
use Rattle.std.specs.Prelude.{◌≡◌, ℕ, ◌+◌, ◌<◌, ◌≤◌, cond, nat_eq, Option, Some, None, List, [], ◌∷◌, ◌++◌, length}
use Rattle.std.specs.Prelude.{filter, map, take}
use Rattle.std.specs.List.{AllByRecursion}
use Rattle.mfotl_model.specs.Numbers.{Apart}
use Rattle.mfotl_model.specs.Strategies.{Strategy, workers_of}
use Rattle.mfotl_model.specs.declared.event.TimePoint.{TimePoint}
use Rattle.monitorable.specs.CoreForms.{CoreForm}
use Rattle.verdict_merge.specs.Gathers.{rows_at}
use Rattle.verdict_merge.specs.declared.rows.Rows.{Rows}
use Rattle.monitor_state.specs.Verdicts.{settled_in}
use Rattle.monitor_state.specs.declared.state.Piece.{Piece}
use Rattle.rescale_worker.specs.Workers.{IsFor}
use Rattle.rescale_worker.specs.Lines.{ChangeOfStrategy, Spot, Due, change_at, moved, first_spot, AreSound}
use Rattle.rescale_worker.specs.Lines.Due.{Slicing, Parting, Hole}
use Rattle.rescale_worker.specs.Phases.{IsPieceFor, Answers, row_for}
use Rattle.rescale_core.specs.Handing.{for_place, item_of}
use Rattle.rescale_core.specs.Worlds.{World, Seat, line_in, pieces_in, rows_in, slice_at}
use Rattle.rescale_worker.specs.declared.item.Entry.{Entry}
use Rattle.rescale_worker.specs.declared.item.Entry.TheVariants.{Point, Change}
use Rattle.rescale_worker.specs.declared.item.Item.{Item}
use Rattle.rescale_worker.specs.declared.item.Out.{Out}

-- the items are what is due, as far as they go
abbrev pub Supplies : CoreForm → ℕ → List Piece → List Due → List Item → Type 0
Supplies core k pieces ds [] = Unit {0}
Supplies core k pieces [] (i ∷ is) = ⊥
Supplies core k pieces (d ∷ ds) (i ∷ is) = (item_of core k pieces d ≡ Some i) × Supplies core k pieces ds is

-- the change to a generation
abbrev pub change_of : Spot → List Entry → ℕ → Option ChangeOfStrategy
change_of a [] g = None
change_of a (Point p ∷ es) g = change_of (moved a (Point p)) es g
change_of a (Change s ∷ es) g =
    cond (nat_eq g (a.generation + 1)) (Some (change_at a s)) (change_of (moved a (Change s)) es g)

-- the piece is one that the change to its generation asks for
pub record Known (change_to : ℕ → Option ChangeOfStrategy) (core : CoreForm) (p : Piece) : Type 0 where
  pub change : ChangeOfStrategy
  pub is : change_to p.generation ≡ Some change
  pub piece_for : IsPieceFor core change p.to p
  pub near : p.to < workers_of change.new

-- the generation of the last part, or g
abbrev pub last_part : ℕ → List Due → ℕ
last_part g [] = g
last_part g (Slicing h s log p ∷ ds) = last_part g ds
last_part g (Parting t ∷ ds) = last_part t.generation ds
last_part g (Hole t j ∷ ds) = last_part g ds

-- the Rows are a worker's own violations at a position, as of the time-point that settles it
pub record KnownRow (slice_of : ℕ → Option Due) (core : CoreForm) (r : Rows) : Type 0 where
  pub strategy : Strategy
  pub log : List TimePoint
  pub point : TimePoint
  pub is : slice_of (length log) ≡ Some (Slicing r.generation strategy log point)
  pub row : r ≡ row_for core r.worker r.generation strategy log point r.point
  pub low : settled_in core log ≤ r.point
  pub high : r.point < settled_in core (log ++ point ∷ [])
  pub near : r.worker < workers_of strategy

-- how many positions are settled with the last slice, or n
abbrev pub last_level : CoreForm → ℕ → List Due → ℕ
last_level core n [] = n
last_level core n (Slicing g s log p ∷ ds) = last_level core (settled_in core (log ++ p ∷ [])) ds
last_level core n (Parting t ∷ ds) = last_level core n ds
last_level core n (Hole t j ∷ ds) = last_level core n ds

-- what holds of the seat of worker k
pub record IsSeated (w : World) (k : ℕ) (s : Seat) : Type 0 where
  pub supplied : Supplies w.core k w.pieces (line_in w k) s.fed
  pub taken : s.taken ≤ length s.fed
  pub collected : s.collected ≤ s.taken
  pub answers : Answers w.core k (take s.taken (line_in w k)) s.outs
  pub back : Answers w.core k (take s.collected (line_in w k)) s.back
  pub more : (more : List Out) × (s.outs ≡ s.back ++ more)
  pub rows : filter (λ (r : Rows). nat_eq r.worker k) w.rows ≡ rows_in s.back
  pub pieces : filter (λ (p : Piece). nat_eq p.from k) w.pieces ≡ pieces_in s.back

-- What holds of the world: what was read may be, each seat is right, and the pieces and Rows that were collected
-- are asked for, each once, and no newer than what was collected of their worker.
pub record IsSound (w : World) : Type 0 where
  pub first : IsFor w.core w.first
  pub read : AreSound w.core (first_spot w.first) w.read
  pub seated : (k : ℕ) → IsSeated w k (w.seats k)
  pub known : AllByRecursion (Known (change_of (first_spot w.first) w.read) w.core) w.pieces
  pub distinct : (g k : ℕ) → Apart (map (λ (p : Piece). p.from) (for_place g k w.pieces))
  pub past : AllByRecursion
      (λ (p : Piece). p.generation ≤ last_part 0 (take (w.seats p.from).collected (line_in w p.from))) w.pieces
  pub rows_known : AllByRecursion (KnownRow (slice_at (first_spot w.first) w.read) w.core) w.rows
  pub rows_apart : (i : ℕ) → Apart (map (λ (r : Rows). r.worker) (rows_at i w.rows))
  pub rows_past : AllByRecursion
      (λ (r : Rows). r.point < last_level w.core 0 (take (w.seats r.worker).collected (line_in w r.worker))) w.rows
