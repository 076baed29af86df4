use Rattle.std.proofs.Common.{◌≡◌, ◌+◌, ap, length, ◌∷◌, ◌++◌, [], List, ◌∙◌, length-append, arith}
use Rattle.rescale_core.specs.Queues.{queue_at}
use Rattle.rescale_core.specs.declared.slot.Slot.{Slot}
use Rattle.rescale_core.proofs.QueueLemmas.{queue_empty}
use Rattle.rescale_core.proofs.queueing.grow.Goals as goal

pub loop-preserved : goal.loop-preserved
loop-preserved c =
    let i = c.loop.invariant in
    let old : List (List Slot) = c.loop.queues.items in
    let items : c.push.new.self.items ≡ old ++ c.new.result ∷ [] = c.in_ok-push.ensures.items in
    let longer : length c.push.new.self.items ≡ length old + 1 =
    ap length items ∙ length-append old (c.new.result ∷ []) in
    record {
      count = longer ∙ ap (λ n. n + 1) i.count;
      len = (let h = i.len in omega arith);
      same = λ q. ap (λ (xs : List (List Slot)). queue_at xs q) items
          ∙ queue_empty old c.new.result q c.new.ensures ∙ i.same q;
    }
