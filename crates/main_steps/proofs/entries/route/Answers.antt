use Rattle.lone_worker.proofs.ErrorLemmas.{on_err}
use Rattle.main_steps.proofs.{EntryLemmas.points_due, WritingLemmas.runs_of, WritingLemmas.stops}
use Rattle.main_steps.proofs.ChangeLemmas.{adds_falls, may_point, point_adds, suits_routed}
use Rattle.main_steps.proofs.WaitLemmas.{point_narrow}
use Rattle.main_steps.proofs.entries.route.Goals as goal

pub make_way-requires-clause-runs : goal.make_way-requires-clause-runs
make_way-requires-clause-runs g c = runs_of c.requires.runs

pub admit-requires-clause-may : goal.admit-requires-clause-may
admit-requires-clause-may g c =
    let schedule = c.args.schedule.now in
    may_point schedule.routed schedule.changes.items c.in_ok-make_way.ensures.due.ok c.requires.runs

pub returns-in_err-admit-clause-err : goal.returns-in_err-admit-clause-err
returns-in_err-admit-clause-err g c =
    let schedule = c.args.schedule.now in
    on_err c.from_residual-in_err-admit.result _
    (adds_falls (points_due schedule.routed schedule.changes.items) c.in_ok-make_way.ensures.due.ok (stops _ _ _))

pub returns-clause-ok : goal.returns-clause-ok
returns-clause-ok g c =
    let schedule = c.args.schedule.now in
    point_adds schedule.routed schedule.changes.items c.in_ok-make_way.ensures.due.ok c.in_ok-admit.ensures.reads

-- there was room for it
pub returns-clause-narrow : goal.returns-clause-narrow
returns-clause-narrow g c =
    let schedule = c.args.schedule.now in
    let way = c.in_ok-make_way.ensures in
    point_narrow (may_point schedule.routed schedule.changes.items way.due.ok c.requires.runs) way.room
    c.in_ok-admit.ensures.reads

pub returns-clause-suits : goal.returns-clause-suits
returns-clause-suits g c =
    let schedule = c.args.schedule.now in
    let due = c.in_ok-make_way.ensures.due in
    suits_routed _ c.make_way.new.schedule c.count.new.self c.requires.runs due.ok
    (point_adds schedule.routed schedule.changes.items due.ok c.in_ok-admit.ensures.reads)
    c.count.ensures.changes due.suits

pub returns-clause-seated : goal.returns-clause-seated
returns-clause-seated g c = rw c.count.ensures.changes c.in_ok-make_way.ensures.due.seated

pub returns-clause-left : goal.returns-clause-left
returns-clause-left g c = rw c.count.ensures.changes c.in_ok-make_way.ensures.due.left
