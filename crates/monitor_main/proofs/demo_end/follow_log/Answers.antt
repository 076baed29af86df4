use Rattle.std.proofs.Common.{◌≡◌, ◌∙◌, ap, arith, codes, is_some, Some}
use Rattle.mon_outside.specs.{Files.content, Memory.SureFiles, Memory.as_files}
use Rattle.monitor_main.specs.{CheckedPolicies.checked_in, Tasks.task_on}
use Rattle.monitor_main.proofs.RunLemmas.{sure_ends}
use Rattle.monitor_main.proofs.demo_end.follow_log.Goals as goal

pub returns : goal.returns
returns g c =
    let log = content (as_files c.args.files.now) (codes "log") in
    let log_is : content c.new-inputs.result.files (codes "log") ≡ log =
    ap (λ (files : SureFiles). content files.files (codes "log")) c.new-inputs.ensures in
    sure_ends (task_on (checked_in c.args.task.checked) log) c.requires.ready.core c.follow.ensures.follows
    (c.open.ensures.rest ∙ ap Some log_is) (c.follow.ensures.stays_open ∙ ap is_some c.open.ensures.rest)
    (λ h. omega (arith, h)) (λ h. omega (arith, h))
