use Rattle.std.proofs.Common.{◌∙◌, Bool, Some, None, cond, sym, ap, arith}
use Rattle.mfotl_parse.specs.{Operators.around, Views.stack_of}
use Rattle.mfotl_parse.proofs.StackLemmas.{stack_of_last, around_nothing}
use Rattle.mfotl_parse.proofs.stack.pop_parens.Goals as goal

pub returns-in_default : goal.returns-in_default
returns-in_default c =
    around_nothing c.args.frames.now.items (omega (arith, c.in_default.ensures.cases.0, c.args.frames.now.ok.0))

pub returns : goal.returns
returns c =
    ap around (stack_of_last _ c.pop.new.self.items c.in-Some.frame c.in-Some.ensures.items)
    ∙ ap (λ (b : Bool). cond b (Some (stack_of c.pop.new.self.items)) None) (sym c.is_parens.ensures)
