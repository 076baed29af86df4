use Rattle.monitor_main.specs.CheckedPolicies.{checked_in}
use Rattle.monitor_main.proofs.monitoring.follow.Goals as goal

pub returns-clause-follows : goal.returns-clause-follows
returns-clause-follows g c =
    let parts = c.into_parts-sig.ensures in
    let policy = (checked_in c.args.task.checked).policy.formula in
    rw parts.sig at (c.follow_plan.ensures.follows policy (rw parts.core c.requires.ready.core))
