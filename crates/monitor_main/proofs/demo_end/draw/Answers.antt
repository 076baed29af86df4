use Rattle.std.proofs.Common.{◌∙◌, ap, sym, List, ℕ}
use Rattle.std.proofs.lemmas.Result.{err_from_is_err_and}
use Rattle.std.specs.Prelude.{Ok}
use Rattle.monitor_main.specs.{CheckedPolicies.checked_in, Tasks.task_on}
use Rattle.monitor_main.proofs.DemoLemmas.{demo_fails, demo_made}
use Rattle.monitor_main.proofs.demo_end.draw.Goals as goal

pub returns-in_err-task-clause-refused : goal.returns-in_err-task-clause-refused
returns-in_err-task-clause-refused c =
    let demo = c.in_ok-sig.ensures in
    let p = err_from_is_err_and c.from_residual-in_err-task.result c.from_residual-in_err-task.ensures.1 in
    rw (p.1, p.2) (demo_fails c.as_bytes.result.now c.as_bytes-2.result.now c.as_bytes-3.result.now c.args.seed
    (c.as_bytes.ensures.value ∙ demo.sig) (c.as_bytes-2.ensures.value ∙ demo.policy)
    (c.as_bytes-3.ensures.value ∙ demo.changes) c.in_err-task.field-0.0 c.in_err-task.ensures.gives)

pub returns-clause-ok : goal.returns-clause-ok
returns-clause-ok c =
    let demo = c.in_ok-sig.ensures in
    let made = demo_made c.as_bytes.result.now c.as_bytes-2.result.now c.as_bytes-3.result.now c.args.seed
    (c.as_bytes.ensures.value ∙ demo.sig) (c.as_bytes-2.ensures.value ∙ demo.policy)
    (c.as_bytes-3.ensures.value ∙ demo.changes) c.in_ok-task.ensures.gives in
    let log_is = c.in_ok-files.ensures ∙ demo.log in
    made ∙ ap (λ (log : List ℕ). Ok (task_on (checked_in c.in_ok-task.task.checked) log)) (sym log_is)
