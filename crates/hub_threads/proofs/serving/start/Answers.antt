use Rattle.hub_threads.proofs.HandLemmas.{no_hands}
use Rattle.hub_threads.proofs.serving.start.Goals as goal

-- a thread has the hands, and none come back
pub returns-in-Ok-clause-hands : goal.returns-in-Ok-clause-hands
returns-in-Ok-clause-hands g c = rw c.new.ensures.items (no_hands c.args.serving.hub.now)
