use Rattle.std.proofs.Common.{length}
use Rattle.mfotl_model.specs.Formulas.{form}
use Rattle.definitions_check.proofs.PositionLemmas.{line_put}
use Rattle.definitions_check.proofs.answers.put_violations.Goals as goal

pub loop-at-preserved : goal.loop-at-preserved
loop-at-preserved c =
    line_put c.loop-at.text.items _ _ c.args.log.now (form c.args.formula.now) c.loop-at.at (length c.args.log.now)
    c.loop-at-test.true c.in_ok-put_violations_at.ensures c.loop-at.invariant
