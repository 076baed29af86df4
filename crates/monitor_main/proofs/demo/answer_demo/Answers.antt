use Rattle.std.proofs.lemmas.Result.{err_from_is_err_and}
use Rattle.monitor_main.proofs.DemoLemmas.{task_told}
use Rattle.monitor_main.proofs.demo.answer_demo.Goals as goal

pub returns-in_err-end-clause-comes : goal.returns-in_err-end-clause-comes
returns-in_err-end-clause-comes g c =
    let p = err_from_is_err_and c.from_residual.result c.from_residual.ensures.1 in
    rw (p.1, p.2) (task_told c.args.seed _ c.in_err-end.ensures.inside c.in_err-end.ensures.refused)
