use Rattle.lone_worker.proofs.ErrorLemmas.{on_err}
use Rattle.main_steps.proofs.{ChangeLemmas.change_adds, ChangeLemmas.may_change, WritingLemmas.falls_on}
use Rattle.main_steps.proofs.{WritingLemmas.stops}
use Rattle.main_steps.proofs.WaitLemmas.{change_narrow}
use Rattle.main_steps.proofs.entries.make_change.Goals as goal

pub read_change-requires-clause-may : goal.read_change-requires-clause-may
read_change-requires-clause-may g c = may_change c.in_ok-make_room.ensures.ok c.requires.runs c.requires.suits

pub returns-in_err-read_change-clause-err : goal.returns-in_err-read_change-clause-err
returns-in_err-read_change-clause-err g c =
    on_err c.from_residual-in_err-read_change.result _ (falls_on c.in_ok-make_room.ensures.ok (stops _ _ _))

pub returns-clause-ok : goal.returns-clause-ok
returns-clause-ok g c = change_adds c.in_ok-make_room.ensures.ok c.requires.suits c.in_ok-read_change.ensures.changes

-- there was room for it
pub returns-clause-narrow : goal.returns-clause-narrow
returns-clause-narrow g c =
    let made = c.in_ok-make_room.ensures in
    change_narrow (may_change made.ok c.requires.runs c.requires.suits) made.room c.in_ok-read_change.ensures.changes
