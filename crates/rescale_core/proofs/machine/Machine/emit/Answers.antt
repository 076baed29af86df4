use Rattle.std.proofs.Common.{refl}
use Rattle.rescale_core.specs.{Worlds.world_after, Worlds.Step.Emit}
use Rattle.rescale_core.proofs.MachineLemmas.{machine_emitted}
use Rattle.rescale_core.proofs.machine.Machine.emit.Goals as goal

pub returns : goal.returns
returns c = λ entries w is.
    let v = c.in-Some.verdict in
    let all = rw c.in-Some.is at c.in_ok-emitted.ensures.emitted in
    let r = all w is.router in (
      world_after w (Emit v),
      (v, r.0, refl),
      machine_emitted c.args.self.now _ entries w v is refl refl c.in_ok-push.ensures.items r.0 r.1,
    )
