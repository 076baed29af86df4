use Rattle.std.proofs.Common.{◌∙◌, ◌∷◌, sym, ap, arith}
use Rattle.mfotl_parse.specs.{Intervals.with_interval, Views.stack_of}
use Rattle.mfotl_parse.proofs.StackLemmas.{stack_of_last, with_interval_nothing}
use Rattle.mfotl_parse.proofs.stack.set_interval.Goals as goal

pub returns-in_default : goal.returns-in_default
returns-in_default c =
    with_interval_nothing c.args.interval _ _ c.in_default.ensures.items
    (omega (arith, c.in_default.ensures.cases, c.pop.new.self.ok.0))

pub returns : goal.returns
returns c =
    c.in_ok-push.ensures ∙ ap (λ f. f ∷ stack_of c.pop.new.self.items) c.framed.ensures
    ∙ ap (with_interval c.args.interval)
    (sym (stack_of_last _ c.pop.new.self.items c.in-Some.frame c.in-Some.ensures.items))
