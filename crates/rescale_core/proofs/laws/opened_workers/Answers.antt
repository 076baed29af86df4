use Rattle.std.proofs.Common.{refl}
use Rattle.turn_hub.specs.Steps.{started}
use Rattle.turn_hub.proofs.Opens.{from_map}
use Rattle.rescale_worker.specs.Works.{begun}
use Rattle.rescale_worker.specs.declared.worker.Worker.{Worker}
use Rattle.rescale_core.proofs.laws.opened_workers.Goals as goal

pub returns : goal.returns
returns c = λ core s works main each lines. (
  (λ k w found. (each k w found).1),
  (λ k l found.
      let from = from_map (λ (w : Worker). started (begun w)) works k l (rw lines at found) in
      rw (← from.2) ((each k from.0 from.1).0, refl, refl, refl, refl)),
)
