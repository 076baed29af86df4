use Rattle.std.proofs.Common.{[], ap, length, arith}
use Rattle.std.proofs.lemmas.List.{get_or_past, get_or_read}
use Rattle.rescale_core.proofs.ReadyQueues.{router_ready}
use Rattle.rescale_core.proofs.router.Router.ready.Goals as goal

pub returns-then-worker-len : goal.returns-then-worker-len
returns-then-worker-len c = λ w is.
    ap length (rw (get_or_past c.args.self.now.queues.items c.args.worker [] (omega (arith, c.len.ensures)))
    at (router_ready c.args.self.now w is c.args.worker))

pub returns : goal.returns
returns c = λ w is.
    rw c.ready.ensures (rw (get_or_read c.args.self.now.queues.items c.args.worker c.index.result.now
    (omega (arith, c.len.ensures)) c.index.ensures []) (ap length (router_ready c.args.self.now w is c.args.worker)))
