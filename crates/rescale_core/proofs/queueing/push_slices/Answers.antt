use Rattle.std.proofs.Common.{◌≡◌, ◌<◌, ℕ, List, length, ap, ◌∷◌, ◌∙◌, arith, length-set}
use Rattle.mfotl_model.specs.declared.event.TimePoint.{TimePoint}
use Rattle.rescale_core.proofs.QueueLemmas.{slice_pushed}
use Rattle.rescale_core.proofs.queueing.push_slices.Goals as goal

pub loop-point-preserved : goal.loop-point-preserved
loop-point-preserved c =
    let i = c.loop-point.invariant in
    let k : ℕ = c.loop-point.k in
    let old : List TimePoint = c.loop-point.point-iterator.rest.items in
    let rest : List TimePoint = c.next.new.self.rest.items in
    let e : old ≡ c.in-Some.point ∷ rest = c.in-Some.ensures.steps.0 in
    let l : length old ≡ length (c.in-Some.point ∷ rest) = ap length e in
    let len = length-set c.loop-point.queues.items k c.push.new.self in
    let low : k < length c.loop-point.queues.items = (let r = i.room in omega arith) in
    record {
      len = len ∙ i.len;
      room = (let r = i.room in omega arith);
      queued = λ q.
          slice_pushed c.args.generation c.args.number k c.in-Some.point old rest c.loop-point.queues.items
          c.index_mut-queue.result.now c.push.new.self q e low c.index_mut-queue.ensures.value c.in_ok-push.ensures
          ∙ i.queued q;
    }
