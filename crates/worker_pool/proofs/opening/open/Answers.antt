use Rattle.monitorable.specs.Cores.{core_form}
use Rattle.hub_threads.proofs.HandLemmas.{all_hands}
use Rattle.worker_pool.proofs.opening.open.Goals as goal

-- main's end is of a hub that was opened on the workers of this core and strategy
pub open-driver-requires : goal.open-driver-requires
open-driver-requires c = (
  core_form c.args.core,
  c.args.strategy,
  c.in_ok-router.ensures,
  (c.opened_workers.ensures (core_form c.args.core) c.args.strategy c.in_ok-works.works.items c.in_ok-hub.main
      c.in_ok-works.ensures.started c.in_ok-hub.ensures.main.2).1,
)

-- so main's part stands for the world in which nothing happened
pub returns-clause-driver : goal.returns-clause-driver
returns-clause-driver c =
    c.open-driver.ensures.stands (core_form c.args.core) c.args.strategy c.in_ok-router.ensures
    (c.opened_workers.ensures (core_form c.args.core) c.args.strategy c.in_ok-works.works.items c.in_ok-hub.main
    c.in_ok-works.ensures.started c.in_ok-hub.ensures.main.2).1

-- the hands are the hub's, in the order of its cells
pub returns-clause-hands : goal.returns-clause-hands
returns-clause-hands c =
    (all_hands c.in_ok-hub.hub c.in_ok-hub.hands.items c.in_ok-hub.ensures.hands.2, c.in_ok-hub.ensures.hands.1)
