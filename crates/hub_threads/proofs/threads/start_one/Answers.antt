use Rattle.hub_threads.proofs.HandLemmas.{more_hands}
use Rattle.hub_threads.proofs.threads.start_one.Goals as goal

-- main has the hands that came back, too
pub returns-clause-own : goal.returns-clause-own
returns-clause-own g c =
    rw c.in_ok-append.ensures.items (more_hands c.args.context.now.hub.now c.args.own.now.items
    c.start-refused.result.items c.requires.own c.start-refused.ensures.hands)
