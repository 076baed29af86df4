use Rattle.hub_threads.proofs.HandLemmas.{no_hands}
use Rattle.hub_threads.proofs.dealing.deal.Goals as goal

-- main has no hands where there are threads
pub returns-clause-own : goal.returns-clause-own
returns-clause-own g c hub ours = rw c.new-2.ensures.items (no_hands hub)
