use Rattle.std.proofs.Common.{◌≡◌, ◌+◌, ◌≤◌, length}
use Rattle.mfotl_parse.specs.{States.depth, Views.stack_of}
use Rattle.mfotl_parse.proofs.stack.depth.Given as goal

abbrev pub invariant-loop-frame : goal.invariant-loop-frame
invariant-loop-frame l =
    (l.levels + depth (stack_of l.below) ≡ depth (stack_of l.frames)) × (l.levels + length l.below ≤ length l.frames)

abbrev pub decreases-loop-frame : goal.decreases-loop-frame
decreases-loop-frame l = length l.below
