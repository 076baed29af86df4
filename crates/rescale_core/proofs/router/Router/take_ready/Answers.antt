use Rattle.std.proofs.Common.{◌≡◌, [], refl, take, ap, ◌∙◌, sym, arith}
use Rattle.std.proofs.lemmas.List.{get_or_past, get_or_read, take_all}
use Rattle.rescale_core.specs.Queues.{queue_at}
use Rattle.rescale_core.proofs.{FeedLemmas.items_taken, ReadyQueues.router_ready}
use Rattle.rescale_core.proofs.router.Router.take_ready.Goals as goal

same : (c : goal.In_ok-raise) → queue_at c.args.self.now.queues.items c.args.worker ≡ c.index_mut-queue.result.now
same c =
    sym (get_or_read c.args.self.now.queues.items c.args.worker c.index_mut-queue.result.now
    (omega (arith, c.len.ensures)) c.index_mut-queue.ensures.value [])

pub returns-then-worker-len-clause-first : goal.returns-then-worker-len-clause-first
returns-then-worker-len-clause-first c = λ w is.
    c.new.ensures.items ∙ sym (take_all c.args.most [] (omega arith))
    ∙ ap (take c.args.most)
    (rw (get_or_past c.args.self.now.queues.items c.args.worker [] (omega (arith, c.len.ensures)))
    at (router_ready c.args.self.now w is c.args.worker))

pub returns-clause-moves : goal.returns-clause-moves
returns-clause-moves c = λ w is.
    items_taken c.args.self.now _ w is c.args.worker c.in_ok-items.items.items c.in_ok-items.ensures.0
    c.take_front.new.queue refl (omega (arith, c.len.ensures)) (same c ∙ c.in_ok-items.ensures.1)
    c.in_ok-items.ensures.2 refl c.in_ok-raise.ensures.len
    (λ q. rw (← c.in_ok-items.items.ok.0, ← c.len-2.ensures) (c.in_ok-raise.ensures.more q))

pub returns-clause-first : goal.returns-clause-first
returns-clause-first c = λ w is.
    c.in_ok-items.ensures.3
    ∙ ap (take c.args.most) (rw (same c) at (router_ready c.args.self.now w is c.args.worker))
