use Rattle.std.proofs.Common.{◌≡◌, ◌-◌}
use Rattle.mfotl_model.specs.Formulas.{form}
use Rattle.mfotl_parse.specs.Arguments.{blanks}
use Rattle.mfotl_parse.proofs.call.blanks.Given as goal

abbrev pub invariant-loop-place : goal.invariant-loop-place
invariant-loop-place l =
    blanks (l.place - l.first) l.first (form l.whole.value)
    ≡ blanks (l.fn.end - l.first) l.first (form l.fn.inner.value)

abbrev pub decreases-loop-place : goal.decreases-loop-place
decreases-loop-place l = l.place
