use Rattle.std.proofs.Common.{◌<◌, length, arith}
use Rattle.std.proofs.lemmas.Grind.{common_steps}
use Rattle.rescale_core.proofs.SureLemmas.{sure_outside}
use Rattle.rescale_core.proofs.queue.Queue.first_ends.Goals as goal

pub returns-then-not-is_empty : goal.returns-then-not-is_empty
returns-then-not-is_empty c =
    let some : 0 < length c.self.inside.front.items = grind (arith, common_steps) in
    rw (← c.self.view_is) (sure_outside c.self.inside.front.items c.self.inside.slots.items some)
