-- What holds in each world that steps reach.
use Rattle.std.proofs.Common.{ℕ, List, [], ◌∷◌, ◌++◌, refl, arith}
use Rattle.rescale_core.proofs.{Fitting.fits_of, WorldLemmas.line_changes, Collecting.collect_sound}
use Rattle.rescale_worker.proofs.{Chains.chained, Leading.first_agrees}
use Rattle.rescale_core.specs.{Soundly.IsSound}
use Rattle.rescale_worker.specs.{Working.Has}
use Rattle.rescale_core.specs.Worlds.{World, Step, world_after, Allowed, run_steps, AreAllowed}
use Rattle.rescale_core.specs.Worlds.Step.{Read, Feed, Take, Collect, Emit}
use Rattle.rescale_core.proofs.SeatLemmas.{read_sound, feed_sound, sound_moved, take_sound}

-- ---- all steps

pub step_sound : (w : World) (s : Step) → IsSound w → Allowed w s → IsSound (world_after w s)
step_sound w (Read e) r a = read_sound w e r a
step_sound w (Feed k i) r a = feed_sound w k i r a.0 a.1
step_sound w (Take k gave) r a = take_sound w k gave r a.0 a.1
step_sound w (Collect k) r a = collect_sound w k r
step_sound w (Emit v) r a = sound_moved w w.seats (w.emitted ++ v ∷ []) r (λ q. refl) r.seated

pub run_sound : (w : World) (ss : List Step) → IsSound w → AreAllowed w ss → IsSound (run_steps w ss)
run_sound w [] r a = r
run_sound w (s ∷ ss) r a = run_sound (world_after w s) ss (step_sound w s r a.0) a.1

-- ---- what workers are told

-- all that was handed over fits
pub has_of : (w : World) (k : ℕ) → IsSound w
    → Has record { core = w.core; first = w.first; number = k } w.read (w.seats k).fed
has_of w k r = grind (arith, fits_of, chained, first_agrees, line_changes)
