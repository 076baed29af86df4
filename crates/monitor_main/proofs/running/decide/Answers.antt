use Rattle.std.proofs.{Common.ap, lemmas.Result.err_from_is_err_and}
use Rattle.std.specs.Prelude.{Err}
use Rattle.monitor_main.proofs.DecideLemmas.{obeyed, words_refused}
use Rattle.monitor_main.proofs.running.decide.Goals as goal

pub returns-in_err-command : goal.returns-in_err-command
returns-in_err-command g c =
    let p = err_from_is_err_and c.from_residual.result c.from_residual.ensures.1 in
    rw p.1 (words_refused c.in_err-command.field-0.0 p.0 p.2 (λ e. c.in_err-command.ensures.usage (ap Err e)))

pub returns : goal.returns
returns g c = obeyed c.in_ok-command.ensures.given c.carry_out.ensures
