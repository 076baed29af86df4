use Rattle.std.proofs.Common.{◌≡◌, ◌++◌, drop}
use Rattle.eval_bool.specs.AtomSteps.{atom_rows}
use Rattle.eval_bool.proofs.matching.atom_rows.Given as goal

abbrev pub invariant-loop-event : goal.invariant-loop-event
invariant-loop-event l =
    l.rows.items ++ atom_rows l.atom l.columns (drop l.event-index l.events)
    ≡ atom_rows l.atom l.columns l.events
