use Rattle.hub_threads.proofs.DealLemmas.{in_order}
use Rattle.worker_pool.proofs.preparing.prepare.Goals as goal

-- the hands are those of the first cells
pub returns-clause-dealt : goal.returns-clause-dealt
returns-clause-dealt c =
    rw (in_order _ _ c.in_ok-hub.ensures.count.1 c.in_ok-hub.ensures.hands.1) at c.in_ok-groups.ensures.dealt
