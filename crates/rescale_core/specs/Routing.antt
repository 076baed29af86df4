-- What a router's queues stand for.
use Rattle.std.specs.Prelude.{◌≡◌, ℕ, ◌+◌, ◌<◌, ◌≤◌, cond, nat_eq, nat_le, nat_lt, Some, filter}
use Rattle.std.specs.Prelude.{List, [], ◌∷◌, ◌++◌, false, get_or, length, map, take}
use Rattle.std.specs.List.{AllByRecursion, list_any, range_with_len}
use Rattle.mfotl_model.specs.Strategies.{Strategy, workers_of}
use Rattle.mfotl_model.specs.declared.event.TimePoint.{TimePoint}
use Rattle.monitorable.specs.CoreForms.{CoreForm}
use Rattle.monitorable.specs.Cores.{core_form}
use Rattle.verdict_merge.specs.Gathers.{GatherOf, is_from, workers_in}
use Rattle.verdict_merge.specs.declared.rows.Begun.{Begun}
use Rattle.verdict_merge.specs.declared.rows.Rows.{Rows}
use Rattle.verdict_merge.specs.declared.rows.Verdict.{Verdict}
use Rattle.rescale_worker.specs.Workers.{slice_for}
use Rattle.rescale_worker.specs.Lines.{spot_after, first_spot}
use Rattle.rescale_worker.specs.Lines.Due.{Slicing}
use Rattle.rescale_core.specs.Chances.Chance.{Sure}
use Rattle.rescale_core.specs.Queues.{chances, queue_at}
use Rattle.rescale_core.specs.Slots.{awaited, ready_of, standing_of}
use Rattle.rescale_core.specs.Worlds.{World, Step, spot_in, queue_in, slice_at, standings_in, GatheredIn, IsGathered}
use Rattle.rescale_core.specs.Worlds.Step.{Feed}
use Rattle.rescale_core.specs.Soundly.{IsSound}
use Rattle.rescale_worker.specs.declared.item.Item.{Item}
use Rattle.rescale_worker.specs.declared.item.Entry.{Entry}
use Rattle.rescale_worker.specs.declared.item.Item.TheVariants.{Slice, Part}
use Rattle.rescale_worker.specs.declared.item.Out.{Out}
use Rattle.rescale_core.specs.declared.router.Router.{Router}
use Rattle.rescale_core.specs.declared.slot.Slot.{Slot}
use Rattle.rescale_core.specs.declared.slot.Slot.TheVariants.{Ready}

-- the slices, one for each worker from k on, as worker q gets them
abbrev pub slices_for : ℕ → ℕ → ℕ → List TimePoint → ℕ → List Slot
slices_for g n k [] q = []
slices_for g n k (p ∷ ps) q = cond (nat_eq q k) (Ready (Slice g n p) ∷ []) [] ++ slices_for g n (k + 1) ps q

-- the part for worker q, if there are more than q workers
abbrev pub part_below : ℕ → ℕ → ℕ → Strategy → Strategy → List Slot
part_below q n generation old new = cond (nat_lt q n) (Ready (Part generation old new) ∷ []) []

-- the place for so many pieces for worker q, if there are more than q workers
abbrev pub place_below : ℕ → ℕ → ℕ → Strategy → ℕ → List Slot
place_below q n generation now count = cond (nat_lt q n) (awaited generation now count) []

-- the slices of a time-point for all workers
abbrev pub all_slices : CoreForm → Strategy → TimePoint → List TimePoint
all_slices core s p = map (λ k. slice_for core s k p) (range_with_len 0 (workers_of s))

-- the first items were taken out, as many as wanted or all that are ready
abbrev pub TakesFront : List Slot → ℕ → List Item → List Slot → Type 0
TakesFront old most items new =
    (front : List Slot) × (old ≡ front ++ new) × (chances front ≡ map (λ i. Sure i) items)
    × (items ≡ take most (ready_of old)) × (length items ≤ most)

-- the Rows may be added one after the other: of a worker of their generation, not added before, and of a
-- time-point without a verdict
abbrev pub MayAdd : GatherOf → List Rows → Type 0
MayAdd g [] = Unit {0}
MayAdd g (r ∷ rs) =
    ((r.worker < workers_in g.begun r.generation) × (list_any (is_from r) g.added ≡ false) × (g.next ≤ r.point))
    × MayAdd (record g { added = g.added ++ r ∷ [] }) rs

-- the Gather has the Rows that were collected and not emitted, and knows how many workers each generation has
pub record IsGatherIn (g : GatherOf) (core : CoreForm) (first : Strategy) (read : List Entry) (rows : List Rows)
    (emitted : List Verdict) : Type 0 where
  pub next : g.next ≡ length emitted
  pub added : g.added ≡ filter (λ r. nat_le (length emitted) r.point) rows
  pub workers : (n h : ℕ) (s : Strategy) (log : List TimePoint) (p : TimePoint)
      → slice_at (first_spot first) read n ≡ Some (Slicing h s log p) → workers_in g.begun h ≡ workers_of s
  pub present : workers_in g.begun (spot_after (first_spot first) read).generation
      ≡ workers_of (spot_after (first_spot first) read).strategy
  pub later : AllByRecursion (λ (b : Begun). b.generation ≤ (spot_after (first_spot first) read).generation) g.begun
  pub gathered : (i : ℕ) → i < length emitted → GatheredIn core first read rows i

-- the same in a world
abbrev pub IsGatherOf : GatherOf → World → Type 0
IsGatherOf g w = IsGatherIn g w.core w.first w.read w.rows w.emitted

-- no item waits, all that was handed over was collected, and there is no verdict to emit
pub record HasEnded (w : World) : Type 0 where
  pub none_wait : (k : ℕ) → queue_in w k ≡ []
  pub all_back : (k : ℕ) → (w.seats k).collected ≡ length (w.seats k).fed
  pub none_to_emit : IsGathered w (length w.emitted) → ⊥

-- the router's queues, counts and gathered Rows are the world's
pub record IsRouterOf (r : Router) (w : World) : Type 0 where
  pub core : core_form r.core ≡ w.core
  pub generation : r.generation ≡ (spot_in w).generation
  pub strategy : r.strategy ≡ (spot_in w).strategy
  pub points : r.points ≡ length (spot_in w).points
  pub wide : workers_of r.strategy ≤ length r.queues.items
  pub queues : (k : ℕ) → chances (queue_at r.queues.items k) ≡ queue_in w k
  pub standings : (k : ℕ) → map standing_of (queue_at r.queues.items k) ≡ standings_in w k
  pub counted : length r.outstanding.items ≡ length r.queues.items
  pub outstanding : (k : ℕ) → (w.seats k).collected + get_or r.outstanding.items k 0 ≡ length (w.seats k).fed
  pub sound : IsSound w
  pub gather : IsGatherOf r.gather w

-- the items are handed to worker k
abbrev pub feeds : ℕ → List Item → List Step
feeds k items = map (λ i. Feed k i) items

-- the worker took so many items that were not collected, and gave these outs by them
pub record HasTaken (w : World) (k n : ℕ) (outs : List Out) : Type 0 where
  pub taken : (w.seats k).taken ≡ (w.seats k).collected + n
  pub gave : (w.seats k).outs ≡ (w.seats k).back ++ outs
