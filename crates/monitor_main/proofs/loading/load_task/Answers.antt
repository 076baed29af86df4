use Rattle.std.proofs.lemmas.Result.{err_from_is_err_and}
use Rattle.monitor_main.proofs.DivisionLemmas.{ready_by}
use Rattle.monitor_main.proofs.StopLemmas.{division_loaded, division_stops, run_stops}
use Rattle.monitor_main.proofs.loading.load_task.Goals as goal

pub returns-in_err-checked-clause-refused : goal.returns-in_err-checked-clause-refused
returns-in_err-checked-clause-refused g c =
    let p = err_from_is_err_and c.from_residual.result c.from_residual.ensures.1 in
    rw (p.1, p.2) (run_stops c.in_err-checked.ensures.refused)

pub returns-in-Err-clause-refused : goal.returns-in-Err-clause-refused
returns-in-Err-clause-refused g c =
    let r = c.in_ok-checked.ensures in
    rw c.refused.ensures (division_stops _ r.ok r.files r.later _ c.in-Err.ensures.refused)

pub returns-in-Ok-clause-ok : goal.returns-in-Ok-clause-ok
returns-in-Ok-clause-ok g c =
    let r = c.in_ok-checked.ensures in
    rw c.new.ensures.checked (division_loaded _ r.ok r.files r.later _ c.in-Ok.ensures.ok)

pub returns-in-Ok-clause-ready : goal.returns-in-Ok-clause-ready
returns-in-Ok-clause-ready g c =
    let r = c.in_ok-checked.ensures in
    let d = c.in-Ok.ensures.divides in
    let e = c.new.ensures in
    ready_by (rw e.checked r.core) (rw e.checked r.variables) (rw (e.checked, e.first) d.first)
    (rw (e.checked, e.changes) d.changes)

pub returns-in-Ok-clause-first : goal.returns-in-Ok-clause-first
returns-in-Ok-clause-first g c =
    let e = c.new.ensures in rw (e.checked, e.first) c.in-Ok.ensures.ok.first

pub returns-in-Ok-clause-changes : goal.returns-in-Ok-clause-changes
returns-in-Ok-clause-changes g c =
    let e = c.new.ensures in
    rw (e.checked, e.changes) (rw c.in_ok-checked.ensures.files at c.in-Ok.ensures.ok.changes)
