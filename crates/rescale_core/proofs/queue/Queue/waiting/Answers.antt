use Rattle.std.proofs.Common.{ap, sum_by, arith}
use Rattle.rescale_core.specs.Slots.{weight_of}
use Rattle.rescale_core.proofs.{SlotLemmas.few_weigh, SureLemmas.sure_weigh}
use Rattle.rescale_core.proofs.queue.Queue.waiting.Goals as goal

pub overflow_add-result : goal.overflow_add-result
overflow_add-result c =
    let few = few_weigh c.self.inside.slots.items in
    let f = c.self.inside.front.ok in
    let l = c.self.inside.slots.ok in
    omega (arith, f.0, l.0, c.len.ensures, c.self.invariant)

pub returns : goal.returns
returns c =
    let all = sure_weigh c.self.inside.front.items c.self.inside.slots.items in
    let now = ap (sum_by weight_of) c.self.view_is in
    omega (arith, all, now, c.self.inside.front.ok.0, c.len.ensures, c.self.invariant)
