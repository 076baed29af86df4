use Rattle.std.proofs.Common.{◌∙◌, ap, sym}
use Rattle.mfotl_model.specs.{Formulas.form, Settled.settled}
use Rattle.mfotl_plain.proofs.LineLemmas.{line_written, text_finished, text_stopped}
use Rattle.mfotl_plain.proofs.lines.log_text.Goals as goal

pub loop-at-preserved : goal.loop-at-preserved
loop-at-preserved c =
    line_written _ _ _ _ _ _ c.loop-at-test.true
    (ap (λ ts. settled ts (form c.args.formula.now) c.loop-at.at)
    (sym (c.as_slice.ensures.value ∙ c.in_ok-times.ensures)) ∙ sym c.if-not-is_settled.ensures)
    c.in_ok-push_line.ensures c.loop-at.invariant

pub returns-then-not-is_settled : goal.returns-then-not-is_settled
returns-then-not-is_settled c =
    text_stopped _ _ _ _ _ c.loop-at-test.true
    (ap (λ ts. settled ts (form c.args.formula.now) c.loop-at.at)
    (sym (c.as_slice.ensures.value ∙ c.in_ok-times.ensures)) ∙ sym c.if-not-is_settled.ensures)
    c.loop-at.invariant

pub returns : goal.returns
returns c = text_finished _ _ _ _ _ c.loop-at-test.false c.loop-at.invariant
