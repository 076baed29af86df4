-- What was emitted are the first verdicts on all that was read.
use Rattle.std.proofs.Common.{◌≡◌, ℕ, zero, suc, ◌+◌, ◌<◌, ◌≤◌, List, [], ◌∷◌, ◌++◌, length, map, sym, refl, ap, ◌∙◌}
use Rattle.std.proofs.Common.{arith, length-append}
use Rattle.std.specs.List.{range_with_len}
use Rattle.std.proofs.lemmas.List.FromFn.{map-range_with_len_more}
use Rattle.monitor_state.proofs.{LogLemmas.settled_within}
use Rattle.monitor_state.specs.{Verdicts.violations_at, Verdicts.settled_in}
use Rattle.monitor_state.specs.Verdicts.{verdict_on}
use Rattle.rescale_core.proofs.{Soundness.step_sound, WorldLemmas.spot_more}
use Rattle.rescale_core.proofs.Settling.{level_rises, viol_stays, time_stays, slice_below}
use Rattle.rescale_core.specs.{Soundly.IsSound, Laws.EmitsVerdicts, Laws.VerdictStays}
use Rattle.rescale_worker.specs.Lines.{AreSound, first_spot, spot_after}
use Rattle.mfotl_model.specs.Strategies.{Strategy}
use Rattle.monitorable.specs.CoreForms.{CoreForm}
use Rattle.rescale_core.specs.Worlds.{World, first_world, Step, spot_in, Allowed, AreAllowed, world_after, run_steps}
use Rattle.rescale_worker.specs.declared.item.Entry.{Entry}
use Rattle.rescale_core.specs.Worlds.Step.{Read, Feed, Take, Collect, Emit}

map_same : {A : Type 0} (f g : ℕ → A) (j n : ℕ) → ((i : ℕ) → i < j + n → f i ≡ g i)
    → map f (range_with_len j n) ≡ map g (range_with_len j n)
map_same f g j zero h = refl
map_same f g j (suc n) h = let x : f j ≡ g j = h j (omega arith) in
    let r = map_same f g (j + 1) n (λ i l. h i (omega arith)) in cc

-- the verdict on a settled position stays where more entries are read
pub verdict_stays : VerdictStays
verdict_stays core a more i is may low =
    let v : violations_at core a.points i ≡ violations_at core (spot_after a more).points i =
    viol_stays core is.fits more a i may low in
    let n = settled_within core a.points in
    let t = time_stays more a i (omega arith) in
    rw (← v, t)

-- so what was emitted are the first verdicts, had these been read too
pub read_on : (w : World) (more : List Entry) → IsSound w → AreSound w.core (spot_in w) more → EmitsVerdicts w
    → EmitsVerdicts (record w { read = w.read ++ more })
read_on w more r may v =
    let all : spot_after (first_spot w.first) (w.read ++ more) ≡ spot_after (spot_in w) more =
    spot_more (first_spot w.first) w.read more in
    let s = v.settled in
    let up : settled_in w.core (spot_in w).points ≤ settled_in w.core (spot_after (spot_in w) more).points =
    level_rises w.core more (spot_in w) may in
    record {
      are = rw all (v.are ∙ map_same (verdict_on w.core (spot_in w).points)
          (verdict_on w.core (spot_after (spot_in w) more).points) 0 (length w.emitted)
          (λ i h. sym (verdict_stays w.core (spot_in w) more i r.first.evaluable may (omega arith))));
      settled = rw all (omega arith);
    }

pub step_verdicts : (w : World) (s : Step) → IsSound w → Allowed w s → EmitsVerdicts w → EmitsVerdicts (world_after w s)
step_verdicts w (Read e) r a v = read_on w (e ∷ []) r (a, tt) v
step_verdicts w (Feed k i) r a v = record { are = v.are; settled = v.settled }
step_verdicts w (Take k gave) r a v = record { are = v.are; settled = v.settled }
step_verdicts w (Collect k) r a v = record { are = v.are; settled = v.settled }
step_verdicts w (Emit x) r a v = let n : ℕ = length w.emitted in let f = verdict_on w.core (spot_in w).points in
    let g = a.1 in
    let l : length (w.emitted ++ x ∷ []) ≡ n + 1 = length-append w.emitted (x ∷ []) in record {
      are = ap (λ y. y ++ x ∷ []) v.are ∙ ap (λ y. map f (range_with_len 0 n) ++ y ∷ []) a.0
          ∙ sym (map-range_with_len_more f 0 n n (omega arith)) ∙ ap (λ m. map f (range_with_len 0 m)) (sym l);
      settled = let below : settled_in w.core (g.2 ++ g.3 ∷ []) ≤ settled_in w.core (spot_in w).points =
          slice_below w.core w.read (first_spot w.first) (length g.2) g.0 g.1 g.2 g.3 r.read g.4 in
          let high : length w.emitted < settled_in w.core (g.2 ++ g.3 ∷ []) = g.6 in omega arith;
    }

pub run_verdicts : (w : World) (ss : List Step) → IsSound w → AreAllowed w ss → EmitsVerdicts w
    → EmitsVerdicts (run_steps w ss)
run_verdicts w [] r a v = v
run_verdicts w (s ∷ ss) r a v = run_verdicts (world_after w s) ss (step_sound w s r a.0) a.1 (step_verdicts w s r a.0 v)

pub first_verdicts : (c : CoreForm) (s : Strategy) → EmitsVerdicts (first_world c s)
first_verdicts c s = record { are = refl; settled = omega arith }
