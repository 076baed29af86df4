use Rattle.std.proofs.Common.{arith}
use Rattle.rescale_core.proofs.SlotLemmas.{few_weigh, one_weight}
use Rattle.rescale_core.proofs.queue.Queue.append.Goals as goal

pub overflow_add-self : goal.overflow_add-self
overflow_add-self c =
    let few = few_weigh c.self.inside.slots.items in
    let one = one_weight c.args.slot in
    let w = c.weight-weight.ensures in
    let i = c.self.invariant in
    let l = c.self.inside.slots.ok in
    omega (arith, l.0)
