-- What is gathered of the time-points that have no verdict yet.
use Rattle.std.specs.Prelude.{ℕ, Bool, ◌&&◌, cond, nat_eq, not, List, length, filter, Option, Some, None}
use Rattle.std.specs.List.{find, flat_map}
use Rattle.mfotl_model.specs.declared.value.Value.{Value}
use Rattle.verdict_merge.specs.declared.rows.Rows.{Rows}
use Rattle.verdict_merge.specs.declared.rows.Begun.{Begun}

-- the generations that were begun, the number of the next time-point to get a verdict, and the Rows that
-- were added for it and for later ones
pub record GatherOf : Type 0 where
  pub begun : List Begun
  pub next : ℕ
  pub added : List Rows

-- whether this is the generation of a number
abbrev pub is_generation : ℕ → Begun → Bool
is_generation number begun = nat_eq begun.generation number

-- how many workers a generation has that was found, 0 where none was
abbrev pub workers_found : Option Begun → ℕ
workers_found None = 0
workers_found (Some begun) = begun.workers

-- how many workers a generation has, 0 where it was not begun
abbrev pub workers_in : List Begun → ℕ → ℕ
workers_in begun generation = workers_found (find (is_generation generation) begun)

-- whether Rows are of a time-point
abbrev pub at_point : ℕ → Rows → Bool
at_point point rows = nat_eq rows.point point

-- the Rows of a time-point
abbrev pub rows_at : ℕ → List Rows → List Rows
rows_at point added = filter (at_point point) added

-- the Rows of all other time-points
abbrev pub rows_after : ℕ → List Rows → List Rows
rows_after point added = filter (λ rows. not (at_point point rows)) added

-- whether both are of the same worker of the same generation, and of the same time-point
abbrev pub is_from : Rows → Rows → Bool
is_from one other =
    nat_eq one.point other.point && (nat_eq one.generation other.generation && nat_eq one.worker other.worker)

-- all rows of all Rows
abbrev pub gathered_rows : List Rows → List (List Value)
gathered_rows given = flat_map (λ (r : Rows). r.rows) given

-- the timestamp of a time-point that has as many Rows as its generation has workers
abbrev pub ts_among : GatherOf → Option Rows → Option ℕ
ts_among g None = None
ts_among g (Some first) =
    cond (nat_eq (length (rows_at g.next g.added)) (workers_in g.begun first.generation)) (Some first.ts) None

-- the timestamp of the next time-point, where the Rows of all workers are there
abbrev pub complete_ts : GatherOf → Option ℕ
complete_ts g = ts_among g (find (at_point g.next) g.added)
