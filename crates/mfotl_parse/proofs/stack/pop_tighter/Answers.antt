use Rattle.std.proofs.Common.{◌∙◌, ◌≤◌, ℕ, sym, subst, arith}
use Rattle.mfotl_parse.proofs.StackLemmas.{reduce_nothing, keeps_loose, closes_popped}
use Rattle.mfotl_parse.proofs.stack.pop_tighter.Goals as goal

pub returns-in_default-clause-closes : goal.returns-in_default-clause-closes
returns-in_default-clause-closes c =
    reduce_nothing c.args.rule _ (rw c.deref.ensures.value at c.in_default.ensures.cases)

pub returns-then-hold-rule-clause-closes : goal.returns-then-hold-rule-clause-closes
returns-then-hold-rule-clause-closes c =
    keeps_loose c.args.rule _ c.in-Some.field-0-1.now c.in-Some.last.now
    (sym c.deref.ensures.value ∙ c.in-Some.ensures.cases.0)
    (subst (λ (n : ℕ). n ≤ c.args.rule) c.hold.ensures c.if-hold-rule.true)

pub returns-clause-closes : goal.returns-clause-closes
returns-clause-closes c =
    closes_popped c.args.rule _ c.in-Some.field-0-1.now _ c.in-Some.last.now c.pop.result
    (sym c.deref.ensures.value ∙ c.in-Some.ensures.cases.0)
    (omega (arith, c.hold.ensures)) c.pop.ensures.items
    (λ some. c.pop.ensures.variant.1 (omega (arith, c.args.frames.now.ok.0)))
