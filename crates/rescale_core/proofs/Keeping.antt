-- Steps keep what holds of worlds.
use Rattle.std.proofs.Common.{ℕ, zero, suc, List, [], ◌∷◌, ◌++◌, ◌≡◌, ◌≤◌, ◌∙◌, arith, refl, replicate}
use Rattle.std.proofs.Permutation.{every_append}
use Rattle.std.specs.List.{AllByRecursion}
use Rattle.rescale_core.specs.{Laws.EmitsVerdicts, Soundly.IsSound, Waiting.added_waiting, Waiting.waiting_in}
use Rattle.rescale_core.specs.Moving.{IsDriverOf, StepKind, Reaches, StepsBy, TurnsTo, collects}
use Rattle.rescale_core.specs.Moving.StepKind.{Reads, Feeds, Takes, Collects, Emits}
use Rattle.rescale_core.specs.Worlds.{World, Allowed, Step, world_after}
use Rattle.rescale_core.specs.Worlds.Step.{Read, Feed, Take, Collect, Emit}
use Rattle.rescale_core.specs.declared.{driver.Driver.Driver, driver.Turn.Turn}
use Rattle.rescale_core.specs.declared.driver.Turn.TheVariants.{Moved, NotYet, Broken}
use Rattle.rescale_core.proofs.{Soundness.step_sound, Taking.reaches_on, Verdicts.step_verdicts, Waits.waits_for}

by_step : (w x : World) (s : Step) → IsSound w → EmitsVerdicts w → Allowed w s → x ≡ world_after w s
    → IsSound x × EmitsVerdicts x
by_step w x s sound verdicts may e = rw e (step_sound w s sound may, step_verdicts w s sound may verdicts)

by_kind : (w x : World) (s : StepKind) → IsSound w → EmitsVerdicts w → StepsBy w s x → IsSound x × EmitsVerdicts x
by_kind w x (Reads e) sound verdicts h = by_step w x (Read e) sound verdicts h.0 h.1
by_kind w x (Feeds k) sound verdicts h = by_step w x (Feed k h.0) sound verdicts h.1 h.2
by_kind w x (Takes k) sound verdicts h = by_step w x (Take k h.0) sound verdicts h.1 h.2
by_kind w x (Collects k) sound verdicts h = by_step w x (Collect k) sound verdicts h.0 h.1
by_kind w x Emits sound verdicts h = by_step w x (Emit h.0) sound verdicts h.1 h.2

pub by_steps : (steps : List StepKind) (w x : World) → IsSound w → EmitsVerdicts w → Reaches w steps x
    → IsSound x × EmitsVerdicts x
by_steps [] w x sound verdicts h = rw (← h) (sound, verdicts)
by_steps (s ∷ steps) w x sound verdicts h =
    let one = by_kind w h.0 s sound verdicts h.1 in
    by_steps steps h.0 x one.0 one.1 h.2

-- a step that reads nothing and emits nothing
abbrev IsInner : StepKind → Type 0
IsInner (Reads e) = ⊥
IsInner (Feeds k) = Unit {0}
IsInner (Takes k) = Unit {0}
IsInner (Collects k) = Unit {0}
IsInner Emits = ⊥

-- the same was read and emitted
pub record Keeps (w x : World) : Type 0 where
  pub core : x.core ≡ w.core
  pub first : x.first ≡ w.first
  pub read : x.read ≡ w.read
  pub emitted : x.emitted ≡ w.emitted

-- and no more waits
inner_step : (w x : World) (s : Step) → Keeps w (world_after w s) → added_waiting s ≡ 0 → IsSound w → Allowed w s
    → x ≡ world_after w s → Keeps w x × ((q : ℕ) → waiting_in x q ≤ waiting_in w q)
inner_step w x s same none sound may e = grind (arith, waits_for)

inner_kind : (w x : World) (s : StepKind) → IsInner s → IsSound w → StepsBy w s x
    → Keeps w x × ((q : ℕ) → waiting_in x q ≤ waiting_in w q)
inner_kind w x (Reads e) i sound h = absurd i
inner_kind w x (Feeds k) i sound h =
    inner_step w x (Feed k h.0) (record { core = refl; first = refl; read = refl; emitted = refl }) refl sound h.1 h.2
inner_kind w x (Takes k) i sound h = grind arith
inner_kind w x (Collects k) i sound h = grind arith
inner_kind w x Emits i sound h = absurd i

inner_steps : (steps : List StepKind) (w x : World) → AllByRecursion IsInner steps → IsSound w → EmitsVerdicts w
    → Reaches w steps x → Keeps w x × ((q : ℕ) → waiting_in x q ≤ waiting_in w q)
inner_steps [] w x i sound verdicts h = grind arith
inner_steps (s ∷ steps) w x i sound verdicts h =
    let one = by_kind w h.0 s sound verdicts h.1 in
    let here = inner_kind w h.0 s i.0 sound h.1 in
    let rest = inner_steps steps h.0 x i.1 one.0 one.1 h.2 in (
      record {
        core = rest.0.core ∙ here.0.core;
        first = rest.0.first ∙ here.0.first;
        read = rest.0.read ∙ here.0.read;
        emitted = rest.0.emitted ∙ here.0.emitted;
      },
      λ q. omega (arith, rest.1 q, here.1 q),
    )

inner_times : (n : ℕ) (s : StepKind) → IsInner s → AllByRecursion IsInner (replicate n s)
inner_times zero s i = tt
inner_times (suc n) s i = (i, inner_times n s i)

-- a turn moves by inner steps
pub turn_moves : (d e : Driver) (k : ℕ) (turn : Turn) (w : World) → TurnsTo d k turn e → IsDriverOf d w
    → (steps : List StepKind) × AllByRecursion IsInner steps × (x : World) × Reaches w steps x × IsDriverOf e x
turn_moves d e k (Moved n m) w t is =
    let r = t.0 w is in (
      (replicate n (Takes k) ++ collects k n) ++ replicate m (Feeds k),
      every_append IsInner (replicate n (Takes k) ++ collects k n) (replicate m (Feeds k))
          (every_append IsInner (replicate n (Takes k)) (collects k n) (inner_times n (Takes k) tt)
          (grind arith))
          (inner_times m (Feeds k) tt),
      r.2.1,
      reaches_on (replicate n (Takes k) ++ collects k n) (replicate m (Feeds k)) w r.0 r.2.1 r.1 r.2.2,
      r.2.3,
    )
turn_moves d e k NotYet w t is = let r = t.0 w is in ([], tt, r.0, r.1, r.2)
turn_moves d e k Broken w t is = let r = t.0 w is in ([], tt, r.0, r.1, r.2)

pub turn_keeps : (d e : Driver) (k : ℕ) (turn : Turn) (w : World) → TurnsTo d k turn e → IsDriverOf d w
    → EmitsVerdicts w
    → (x : World) × IsDriverOf e x × EmitsVerdicts x × Keeps w x × ((q : ℕ) → waiting_in x q ≤ waiting_in w q)
turn_keeps d e k turn w t is verdicts = grind (arith, turn_moves, inner_steps, by_steps)
