-- The hub of the workers, and its hands.
use Rattle.turn_hub.specs.declared.hub.Hand.{Hand}
use Rattle.turn_hub.specs.declared.hub.Hub.{Hub}
use Rattle.rescale_worker.specs.declared.item.Item.{Item}
use Rattle.rescale_worker.specs.declared.item.Out.{Out}
use Rattle.rescale_worker.specs.declared.seed.Seed.{Seed}
use Rattle.rescale_worker.specs.declared.worker.Worker.{Worker}

-- a hub whose works are workers
abbrev pub WorkerHub : Type 0
WorkerHub = Hub Worker Item Out Seed

-- a hand of such a hub
abbrev pub WorkerHand : Type 0
WorkerHand = Hand Worker Item Out Seed
