-- What a worker is to the hub: its seed, what it stands for, what is told of it, and what it may be handed.
use Rattle.std.specs.Prelude.{List, [], ◌++◌}
use Rattle.monitorable.specs.Cores.{core_form}
use Rattle.rescale_worker.specs.Seeds.{SeedOf}
use Rattle.rescale_worker.specs.Working.{May, StandsFor, Told, may_less, may_none, tells}
use Rattle.rescale_worker.specs.declared.item.Item.{Item}
use Rattle.rescale_worker.specs.declared.item.Out.{Out}
use Rattle.rescale_worker.specs.declared.seed.Seed.{Seed}
use Rattle.rescale_worker.specs.declared.worker.Worker.{Worker}

-- a seed as the definitions speak of it: of the core its form alone
abbrev pub seen : Seed → SeedOf
seen s = record { core = core_form s.core; first = s.first; number = s.number }

-- what the worker began with
abbrev pub begun : Worker → Seed
begun w = record { core = w.core; first = w.first.value; number = w.number }

-- the worker began with the seed, took these items and gave these outs
abbrev pub StandsBy : Seed → List Item → List Out → Worker → Type 0
StandsBy s taken gave w = StandsFor (seen s) taken gave w

-- whatever entries make the items due, the outs answer them
abbrev pub ToldBy : Seed → List Item → List Out → Type 0
ToldBy s taken gave = Told (seen s) taken gave

-- the items may be handed over
abbrev pub MayBy : Seed → List Item → Type 0
MayBy s items = May (seen s) items

-- of a worker to which memory was refused nothing more is known
abbrev pub RefusedBy : Worker → Type 0
RefusedBy w = Unit {0}

-- ---- laws

-- what stands is told
pub tells_by : (s : Seed) (t : List Item) (g : List Out) (w : Worker) → StandsBy s t g w → ToldBy s t g
tells_by s t g w h = tells (seen s) t g w h

-- nothing may be handed over
pub may_none_by : (s : Seed) → MayBy s []
may_none_by s = may_none (seen s)

-- a front of what may be handed over may be
pub may_less_by : (s : Seed) (a b : List Item) → MayBy s (a ++ b) → MayBy s a
may_less_by s a b m = may_less (seen s) a b m
