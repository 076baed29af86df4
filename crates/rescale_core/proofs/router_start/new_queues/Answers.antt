use Rattle.std.proofs.Common.{◌≡◌, ap, length, ◌∷◌, ◌++◌, [], ◌+◌, List, ◌∙◌, length-append}
use Rattle.rescale_core.specs.Queues.{queue_at}
use Rattle.rescale_core.specs.declared.slot.Slot.{Slot}
use Rattle.rescale_core.proofs.QueueLemmas.{queue_empty}
use Rattle.rescale_core.proofs.router_start.new_queues.Goals as goal

pub loop-preserved : goal.loop-preserved
loop-preserved c =
    let old : List (List Slot) = c.loop.queues.items in
    let items : c.push.new.self.items ≡ old ++ c.new.result ∷ [] = c.in_ok-push.ensures.items in
    record {
      len = ap length items ∙ length-append old (c.new.result ∷ []) ∙ ap (λ n. n + 1) c.loop.invariant.len;
      empty = λ q. ap (λ (xs : List (List Slot)). queue_at xs q) items
          ∙ queue_empty old c.new.result q c.new.ensures ∙ c.loop.invariant.empty q;
    }
