-- How much waits for a worker.
use Rattle.std.specs.Prelude.{ℕ, ◌+◌, ◌<◌, ◌≤◌, Bool, cond, nat_eq, nat_lt, List, length, drop, sum_by}
use Rattle.mfotl_model.specs.Strategies.{workers_of}
use Rattle.rescale_worker.specs.Lines.{Due}
use Rattle.rescale_worker.specs.Lines.Due.{Slicing, Parting, Hole}
use Rattle.rescale_core.specs.Slots.{weight_of}
use Rattle.rescale_core.specs.Soundly.{IsSound}
use Rattle.rescale_core.specs.Worlds.{World, Step, Allowed, world_after, line_in}
use Rattle.rescale_core.specs.Worlds.Step.{Read, Feed, Take, Collect, Emit}
use Rattle.rescale_worker.specs.declared.item.Entry.TheVariants.{Point, Change}
use Rattle.rescale_core.specs.declared.slot.Slot.{Slot}

-- how much it is that waits by a due: a place is one, until its last piece is handed over
abbrev pub weight : Due → ℕ
weight (Slicing g s log p) = 1
weight (Parting t) = 1
weight (Hole t j) = cond (nat_eq (j + 1) (workers_of t.old)) 1 0

-- how many slices, parts and places wait for worker k
abbrev pub waiting_in : World → ℕ → ℕ
waiting_in w k = sum_by weight (drop (length (w.seats k).fed) (line_in w k))

-- from so many on that wait for one worker no more is read
abbrev pub most_waiting : ℕ
most_waiting = 1024

-- no worker has so many waiting
abbrev pub HasRoom : World → Type 0
HasRoom w = (k : ℕ) → waiting_in w k < most_waiting

-- whether fewer stand in a queue
abbrev pub is_short : List Slot → Bool
is_short slots = nat_lt (sum_by weight_of slots) most_waiting

-- how many more a step may make wait for one worker
abbrev pub added_waiting : Step → ℕ
added_waiting (Read (Point p)) = 1
added_waiting (Read (Change s)) = 2
added_waiting (Feed k i) = 0
added_waiting (Take k gave) = 0
added_waiting (Collect k) = 0
added_waiting (Emit v) = 0

-- a time-point makes at most one more wait for a worker, a change two, and nothing else makes more wait
abbrev pub WaitsFor : Type 0
WaitsFor =
    (w : World) (s : Step) (k : ℕ) → IsSound w → Allowed w s
    → waiting_in (world_after w s) k ≤ waiting_in w k + added_waiting s
