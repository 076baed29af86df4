use Rattle.std.proofs.{Common.[], lemmas.Result.err_from_is_err_and}
use Rattle.monitor_main.specs.Tasks.{changes_in, strategy_in}
use Rattle.monitor_main.proofs.DemoLemmas.{division_fails, policy_fails, texts_divided}
use Rattle.monitor_main.proofs.DivisionLemmas.{both_accepted, ready_by}
use Rattle.monitor_main.proofs.demo_end.task_of.Goals as goal

pub returns-in_err-checked-clause-gives : goal.returns-in_err-checked-clause-gives
returns-in_err-checked-clause-gives c =
    let p = err_from_is_err_and c.from_residual.result c.from_residual.ensures.1 in
    rw (p.1, p.2) (policy_fails c.args.sig.now c.args.policy.now c.args.changes.now _ c.in_err-checked.ensures.gives)

pub returns-in-Err-clause-gives : goal.returns-in-Err-clause-gives
returns-in-Err-clause-gives c =
    rw c.refused.ensures (division_fails c.args.sig.now c.args.policy.now c.args.changes.now
    c.in_ok-checked.ensures.gives c.in-Err.refusal c.in-Err.ensures.gives)

pub returns-in-Ok-clause-gives : goal.returns-in-Ok-clause-gives
returns-in-Ok-clause-gives c =
    rw c.new.ensures.checked (texts_divided c.args.sig.now c.args.policy.now c.args.changes.now
    c.in_ok-checked.ensures.gives c.in-Ok.ensures.gives)

pub returns-in-Ok-clause-first : goal.returns-in-Ok-clause-first
returns-in-Ok-clause-first c =
    let vars = c.in_ok-checked.checked.policy.vars in
    let e = c.new.ensures in
    rw (e.checked, e.first)
    (both_accepted (strategy_in vars []) (changes_in vars c.args.changes.now) c.in-Ok.ensures.gives).0

pub returns-in-Ok-clause-changes : goal.returns-in-Ok-clause-changes
returns-in-Ok-clause-changes c =
    let vars = c.in_ok-checked.checked.policy.vars in
    let e = c.new.ensures in
    rw (e.checked, e.changes)
    (both_accepted (strategy_in vars []) (changes_in vars c.args.changes.now) c.in-Ok.ensures.gives).1

pub returns-in-Ok-clause-ready : goal.returns-in-Ok-clause-ready
returns-in-Ok-clause-ready c =
    let r = c.in_ok-checked.ensures in
    let d = c.in-Ok.ensures.divides in
    let e = c.new.ensures in
    ready_by (rw e.checked r.core) (rw e.checked r.variables) (rw (e.checked, e.first) d.first)
    (rw (e.checked, e.changes) d.changes)
