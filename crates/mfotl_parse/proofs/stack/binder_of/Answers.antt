use Rattle.std.proofs.Common.{◌∙◌, sym, ap}
use Rattle.mfotl_parse.specs.{SymbolTable.inner_or, SymbolTable.binder_of, Views.stack_of}
use Rattle.mfotl_parse.proofs.StackLemmas.{binder_of_last, binder_of_nothing}
use Rattle.mfotl_parse.proofs.stack.binder_of.Goals as goal

pub returns-in-Some-bound_as : goal.returns-in-Some-bound_as
returns-in-Some-bound_as c =
    let last = binder_of_last c.args.name.now _ _ _ c.in-Some.ensures.cases.0 in
    ap (λ found. inner_or found (binder_of c.args.name.now (stack_of c.in-Some.front.now))) c.in-Some-bound_as.ensures
    ∙ sym last ∙ c.loop-frame.invariant

pub loop-frame-preserved : goal.loop-frame-preserved
loop-frame-preserved c =
    let last = binder_of_last c.args.name.now _ _ _ c.in-Some.ensures.cases.0 in
    ap (λ found. inner_or found
    (binder_of c.args.name.now (stack_of c.in-Some.front.now))) c.in_default-bound_as.ensures
    ∙ sym last ∙ c.loop-frame.invariant

pub returns : goal.returns
returns c = sym (binder_of_nothing _ _ c.in_default.ensures.cases) ∙ c.loop-frame.invariant
