use Rattle.std.proofs.Common.{◌≡◌, vec_len}
use Rattle.mfotl_model.specs.Formulas.{form}
use Rattle.mfotl_parse.specs.{Reduction.reduce, Views.stack_of}
use Rattle.mfotl_parse.proofs.stack.reduce.Given as goal

abbrev pub invariant-loop-frame : goal.invariant-loop-frame
invariant-loop-frame l =
    reduce l.fn.rule (form l.fn.operand.value) (stack_of l.fn.frames.items)
    ≡ reduce l.rule (form l.whole.value) (stack_of l.frames.items)

abbrev pub decreases-loop-frame : goal.decreases-loop-frame
decreases-loop-frame l = vec_len l.frames
