use Rattle.rescale_core.proofs.SlotLemmas.{awaited_pushed}
use Rattle.rescale_core.proofs.queue.Queue.push_place.Goals as goal

pub loop-j-preserved : goal.loop-j-preserved
loop-j-preserved c =
    awaited_pushed c.loop-j.self c.append.new.self c.args.self.now c.args.generation c.args.now.now c.in_ok-now.now
    c.args.count c.loop-j.j c.loop-j.invariant c.in_ok-now.ensures.same c.in_ok-append.ensures
