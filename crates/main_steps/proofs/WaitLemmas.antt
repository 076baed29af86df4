-- How many items wait for each worker behind what was read.
use Rattle.std.proofs.Common.{◌≡◌, ◌+◌, ◌≤◌, ◌<◌, ◌∙◌, ◌⊎◌, inl, inr, ℕ, [], ◌∷◌, ap, sym, subst, arith}
use Rattle.mfotl_model.specs.Strategies.{Strategy}
use Rattle.mfotl_model.specs.declared.event.TimePoint.{TimePoint}
use Rattle.monitor_state.specs.{Verdicts.MayFollow}
use Rattle.rescale_core.proofs.{Waits.queue_waits, Waits.waits_for}
use Rattle.rescale_core.specs.{Moving.IsDriverOf, Moving.Reaches, Moving.StepKind.Reads}
use Rattle.rescale_core.specs.Waiting.{HasRoom, added_waiting, most_waiting, waiting_in}
use Rattle.rescale_core.specs.{Worlds.Step.Read, Worlds.World, Worlds.spot_in, Worlds.world_after}
use Rattle.rescale_core.specs.declared.{driver.Driver.Driver}
use Rattle.rescale_worker.specs.{Workers.IsFor}
use Rattle.rescale_worker.specs.declared.{item.Entry.Entry, item.Entry.TheVariants.Point}
use Rattle.rescale_worker.specs.declared.{item.Entry.TheVariants.Change as ToStrategy}
use Rattle.main_steps.specs.Changes.{IsDue, NoneDue}
use Rattle.main_steps.specs.Writing.{ChangesIn, IsRoomy, ReadsIn, WaitAtMost}
use Rattle.main_steps.specs.declared.schedule.Schedule.{Schedule}

-- ---- an entry more

-- in all worlds of a driver as many wait
same_waiting : (d : Driver) (w x : World) → IsDriverOf d w → IsDriverOf d x → (k : ℕ)
    → waiting_in w k ≡ waiting_in x k
same_waiting d w x is are k = sym (queue_waits _ w is.router k) ∙ queue_waits _ x are.router k

few_more : (now next before added most n : ℕ) → now ≡ next → next ≤ before + added → before < most
    → most + added ≤ n + 1 → now ≤ n
few_more now next before added most n same more room few = omega arith

-- where there was room, at most so many wait behind the entry
narrow_by : (d e : Driver) (w x : World) (entry : Entry) (n : ℕ) → IsDriverOf d w → HasRoom w
    → Reaches w (Reads entry ∷ []) x → IsDriverOf e x → most_waiting + added_waiting (Read entry) ≤ n + 1
    → WaitAtMost n e
narrow_by d e w x entry n is room read stands few y are k =
    let here : x ≡ world_after w (Read entry) = sym read.2 ∙ read.1.1 in
    let same : waiting_in y k ≡ waiting_in (world_after w (Read entry)) k =
    same_waiting e y x are stands k ∙ ap (λ v. waiting_in v k) here in
    few_more (waiting_in y k) (waiting_in (world_after w (Read entry)) k) (waiting_in w k) (added_waiting (Read entry))
    most_waiting n same (waits_for w (Read entry) k is.router.sound read.1.0) (room k) few

-- a time-point makes one more wait
pub point_narrow : {d e : Driver} {p : TimePoint} → (w : World) × IsDriverOf d w × MayFollow (spot_in w).points p
    → IsRoomy d → ReadsIn d p e → WaitAtMost most_waiting e
point_narrow {d} {e} {p} may room reads =
    let read = reads may.0 may.2 may.1 in
    let few : most_waiting + 1 ≤ most_waiting + 1 = omega arith in
    narrow_by d e may.0 read.0 (Point p) most_waiting may.1 (room may.0 may.1) read.1 read.2 few

-- a change two
pub change_narrow : {d e : Driver} {s : Strategy} → (w : World) × IsDriverOf d w × IsFor w.core s → IsRoomy d
    → ChangesIn d s e → WaitAtMost (most_waiting + 1) e
change_narrow {d} {e} {s} may room changes =
    let read = changes may.0 may.2 may.1 in
    let few : most_waiting + 2 ≤ most_waiting + 1 + 1 = omega arith in
    narrow_by d e may.0 read.0 (ToStrategy s) (most_waiting + 1) may.1 (room may.0 may.1) read.1 read.2 few

-- ---- behind the changes that are due

below_more : (now most : ℕ) → now < most → now ≤ most + 1
below_more now most room = omega arith

-- where there is room, no more wait than behind a change
pub roomy_narrow : {d : Driver} → IsRoomy d → WaitAtMost (most_waiting + 1) d
roomy_narrow room w is k = below_more (waiting_in w k) most_waiting (room w is k)

-- a change isn't due where none is
pub due_or_none : (s : Schedule) → IsDue s → NoneDue s → ⊥
due_or_none s due none =
    let high : s.routed < due.change.before = none due.change due.rest due.first in
    let low : due.change.before ≤ s.routed = due.reached in
    omega (arith, high, low)

-- once none is due any more, one was made, if one was due
pub narrow_behind : {n : ℕ} (old now : Schedule) (d : Driver) → (now ≡ old) ⊎ WaitAtMost n d → NoneDue now
    → IsDue old → WaitAtMost n d
narrow_behind old now d (inl same) none due = absurd (due_or_none old due (subst (λ s. NoneDue s) same none))
narrow_behind old now d (inr few) none due = few
