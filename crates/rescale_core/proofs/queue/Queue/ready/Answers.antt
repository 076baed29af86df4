use Rattle.std.proofs.Common.{ap, length, length-append, arith}
use Rattle.rescale_core.specs.Slots.{ready_of}
use Rattle.rescale_core.proofs.{SlotLemmas.ready_most, SureLemmas.sure_ready}
use Rattle.rescale_core.proofs.queue.Queue.ready.Goals as goal

pub overflow_add-result : goal.overflow_add-result
overflow_add-result c =
    let most = ready_most c.self.inside.slots.items in
    let f = c.self.inside.front.ok in
    let l = c.self.inside.slots.ok in
    omega (arith, f.0, l.0, c.len.ensures, c.ready_len.ensures)

pub returns : goal.returns
returns c =
    let front = c.self.inside.front in
    let both = ap length (sure_ready front.items c.self.inside.slots.items) in
    let sum = length-append front.items (ready_of c.self.inside.slots.items) in
    let now = ap (λ xs. length (ready_of xs)) c.self.view_is in
    omega (arith, both, sum, now, front.ok.0, c.len.ensures, c.ready_len.ensures)
