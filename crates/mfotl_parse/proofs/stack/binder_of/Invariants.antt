use Rattle.std.proofs.Common.{◌≡◌, length}
use Rattle.mfotl_parse.specs.{SymbolTable.binder_of, Views.stack_of}
use Rattle.mfotl_parse.proofs.stack.binder_of.Given as goal

abbrev pub invariant-loop-frame : goal.invariant-loop-frame
invariant-loop-frame l = binder_of l.name (stack_of l.rest) ≡ binder_of l.name (stack_of l.frames)

abbrev pub decreases-loop-frame : goal.decreases-loop-frame
decreases-loop-frame l = length l.rest
