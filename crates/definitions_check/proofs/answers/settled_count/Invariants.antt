use Rattle.std.proofs.Common.{◌≡◌, ◌+◌, ◌-◌, length}
use Rattle.mfotl_model.specs.{Counts.passing, Counts.settled_count, Formulas.form, Settled.settled}
use Rattle.definitions_check.proofs.answers.settled_count.Given as goal

abbrev pub invariant-loop-at : goal.invariant-loop-at
invariant-loop-at l =
    l.at + passing (settled l.times (form l.formula)) l.at (length l.times - l.at)
    ≡ settled_count l.times (form l.formula)
