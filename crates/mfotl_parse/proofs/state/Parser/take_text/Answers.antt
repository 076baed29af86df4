use Rattle.std.proofs.{Common.sym, Common.subst, lemmas.Result.err_from_is_err_and}
use Rattle.mfotl_parse.specs.Views.{policy_of, Gives}
use Rattle.mfotl_parse.proofs.state.Parser.take_text.Goals as goal

pub returns-in_err-take_all : goal.returns-in_err-take_all
returns-in_err-take_all c =
    let p = err_from_is_err_and c.from_residual.result c.from_residual.ensures.1 in
    rw (p.1, p.2) c.in_err-take_all.ensures

pub returns : goal.returns
returns c = subst (Gives policy_of c.finish.result) (sym c.in_ok-take_all.ensures) c.finish.ensures
