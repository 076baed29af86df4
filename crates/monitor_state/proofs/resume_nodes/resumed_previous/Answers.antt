use Rattle.std.proofs.Common.{ap₂, ◌∙◌}
use Rattle.eval_since.specs.PreviousData.{previous_of}
use Rattle.monitor_state.proofs.ResumeNodes.{previous_resumed}
use Rattle.monitor_state.proofs.resume_nodes.resumed_previous.Goals as goal

pub returns : goal.returns
returns c =
    let old = c.args.state in
    rw c.in-Previous.is
    (previous_resumed c.args.times.now old c.in_ok-resumed.resumed c.in-Previous.data
    (c.in_ok-resumed.ensures
    ∙ ap₂ (λ x xs. previous_of old.interval old.columns x xs c.in-Previous.data) c.before_place-last.ensures
    c.from_place-next.ensures))
