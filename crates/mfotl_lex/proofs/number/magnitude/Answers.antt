use Rattle.std.proofs.Common.{◌∙◌}
use Rattle.mfotl_lex.proofs.Digits.{passes_limit}
use Rattle.mfotl_lex.proofs.number.magnitude.Goals as goal

pub returns-then-value-gt-MAX_MAGNITUDE : goal.returns-then-value-gt-MAX_MAGNITUDE
returns-then-value-gt-MAX_MAGNITUDE c =
    passes_limit _ c.loop-b.value c.from.result c.loop-b.b-index c.args.digits.now c.loop-b-test.true
    (c.from.ensures ∙ c.saturating_sub.ensures) c.loop-b.invariant.1 c.if-value-gt-MAX_MAGNITUDE.true
