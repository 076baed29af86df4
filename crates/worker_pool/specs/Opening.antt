-- The workers as they begin.
use Rattle.std.specs.Prelude.{◌≡◌, ℕ, List, []}
use mathlib.Core.Option.{some}
use lib.ListN.{get_elem?}
use Rattle.mfotl_model.specs.Strategies.{Strategy}
use Rattle.monitorable.specs.CoreForms.{CoreForm}
use Rattle.rescale_worker.specs.Working.{StandsFor, seed_of}
use Rattle.rescale_worker.specs.declared.worker.Worker.{Worker}

-- in each place is the worker of its number, which took nothing
abbrev pub AreStarted : CoreForm → Strategy → List Worker → Type 0
AreStarted core strategy works = (k : ℕ) (w : Worker) → get_elem? works k ≡ some w
    → (seed_of w ≡ record { core = core; first = strategy; number = k }) × StandsFor (seed_of w) [] [] w
