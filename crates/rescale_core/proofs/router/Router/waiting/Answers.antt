use Rattle.std.proofs.{Common.[], Common.arith, lemmas.List.get_or_past, lemmas.List.get_or_read}
use Rattle.rescale_core.proofs.Waits.{queue_waits}
use Rattle.rescale_core.proofs.router.Router.waiting.Goals as goal

pub returns-then-worker-len : goal.returns-then-worker-len
returns-then-worker-len c = λ w is.
    rw (get_or_past c.args.self.now.queues.items c.args.worker [] (omega (arith, c.len.ensures)))
    at (queue_waits c.args.self.now w is c.args.worker)

pub returns : goal.returns
returns c = λ w is.
    rw c.waiting.ensures (rw (get_or_read c.args.self.now.queues.items c.args.worker c.index.result.now
    (omega (arith, c.len.ensures)) c.index.ensures []) (queue_waits c.args.self.now w is c.args.worker))
