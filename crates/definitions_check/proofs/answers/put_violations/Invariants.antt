use Rattle.std.proofs.Common.{◌≡◌, ◌-◌, ◌++◌, length}
use Rattle.std.specs.List.{range_with_len}
use Rattle.mfotl_model.specs.Formulas.{form}
use Rattle.definitions_check.specs.Answers.{violation_lines}
use Rattle.definitions_check.proofs.answers.put_violations.Given as goal

abbrev pub invariant-loop-at : goal.invariant-loop-at
invariant-loop-at l =
    l.text.items ++ violation_lines l.log (form l.formula) (range_with_len l.at (length l.log - l.at))
    ≡ l.fn.text.items ++ violation_lines l.log (form l.formula) (range_with_len 0 (length l.log))
