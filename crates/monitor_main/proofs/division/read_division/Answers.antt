use Rattle.std.proofs.{Common.[], lemmas.Result.err_from_is_err_and}
use Rattle.monitor_main.specs.Tasks.{changes_in, strategy_in}
use Rattle.monitor_main.proofs.DivisionLemmas.{changes_fail, strategy_fails}
use Rattle.monitor_main.proofs.division.read_division.Goals as goal

pub returns-in_err-first-clause-gives : goal.returns-in_err-first-clause-gives
returns-in_err-first-clause-gives c =
    let vars = c.args.policy.now.vars in
    let p = err_from_is_err_and c.from_residual.result c.from_residual.ensures.1 in
    rw (p.1, p.2) (strategy_fails (strategy_in vars []) (changes_in vars c.args.script.now) _
    c.in_err-first.ensures.gives)

pub returns-in_err-changes-clause-gives : goal.returns-in_err-changes-clause-gives
returns-in_err-changes-clause-gives c =
    let vars = c.args.policy.now.vars in
    let p = err_from_is_err_and c.from_residual-in_err-changes.result c.from_residual-in_err-changes.ensures.1 in
    rw (p.1, p.2) (changes_fail (strategy_in vars []) (changes_in vars c.args.script.now)
    c.in_ok-first.ensures.gives _ c.in_err-changes.ensures.gives)
