use Rattle.std.proofs.Common.{◌≡◌, ◌++◌, drop}
use Rattle.eval_bool.specs.AtomSteps.{atom_rows}
use Rattle.mfotl_model.specs.FreeVariables.{variables_in}
use Rattle.eval_bool.proofs.matching.plain_rows.Given as goal

abbrev pub invariant-loop-event : goal.invariant-loop-event
invariant-loop-event l =
    l.rows.items ++ atom_rows l.atom (variables_in l.atom.args) (drop l.event-index l.events)
    ≡ atom_rows l.atom (variables_in l.atom.args) l.events
