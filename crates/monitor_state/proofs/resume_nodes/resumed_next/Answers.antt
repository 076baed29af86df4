use Rattle.std.proofs.Common.{ap, ◌∙◌}
use Rattle.eval_until.specs.NextData.{next_of}
use Rattle.monitor_state.proofs.ResumeNodes.{next_resumed}
use Rattle.monitor_state.proofs.resume_nodes.resumed_next.Goals as goal

pub returns : goal.returns
returns c =
    let old = c.args.state in
    rw c.in-Next.is
    (next_resumed c.args.times.now old c.in_ok-resumed.resumed c.in-Next.data
    (c.in_ok-resumed.ensures.state
    ∙ ap (λ xs. next_of old.interval old.columns xs c.in-Next.data) c.from_place-next.ensures))
