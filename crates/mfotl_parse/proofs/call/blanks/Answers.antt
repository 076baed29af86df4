use Rattle.std.proofs.Common.{◌∙◌, ◌-◌, arith, ap}
use Rattle.mfotl_model.specs.Formulas.{form}
use Rattle.mfotl_parse.specs.Arguments.{blanks}
use Rattle.mfotl_parse.proofs.BlankLemmas.{blanks_step}
use Rattle.mfotl_parse.proofs.call.blanks.Goals as goal

pub loop-place-preserved : goal.loop-place-preserved
loop-place-preserved c =
    let first = c.args.first in
    let place = c.loop-place.place in
    ap (blanks (place - 1 - first) first) c.in_ok-whole.ensures
    ∙ blanks_step (place - 1 - first) (place - first) first (place - 1) (form c.loop-place.whole.value)
    (omega arith) (omega arith)
    ∙ c.loop-place.invariant
