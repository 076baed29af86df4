use Rattle.monitor_main.proofs.DivisionLemmas.{all_divide}
use Rattle.monitor_main.proofs.changes_file.short_changes.Goals as goal

pub returns-clause-divides : goal.returns-clause-divides
returns-clause-divides c =
    all_divide c.args.policy.now.vars c.args.bytes.now c.in_ok-changes.changes.items c.in_ok-changes.ensures.value
    c.in_ok-changes.ensures.workers
