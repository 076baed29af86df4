use Rattle.lone_worker.proofs.ErrorLemmas.{on_err}
use Rattle.main_steps.proofs.WritingLemmas.{cut_short, same_keeps, stops, wrote_one}
use Rattle.main_steps.proofs.rounds.write_next.Goals as goal

pub returns-in_err-ready-clause-err : goal.returns-in_err-ready-clause-err
returns-in_err-ready-clause-err g c = on_err c.from_residual.result _ (stops _ _ _)

pub returns-in-None-clause-ok : goal.returns-in-None-clause-ok
returns-in-None-clause-ok g c =
    same_keeps _ _ (λ w is. ((rw c.in-None.is at c.in_ok-ready.ensures.none) w is).1)

pub returns-in_err-write-in-Some-clause-err : goal.returns-in_err-write-in-Some-clause-err
returns-in_err-write-in-Some-clause-err g c =
    on_err c.from_residual-in_err-write-in-Some.result _
    (cut_short (rw c.in-Some.is at c.in_ok-ready.ensures.emitted) c.in_err-write-in-Some.ensures.front)

pub returns-in_ok-write-in-Some-clause-ok : goal.returns-in_ok-write-in-Some-clause-ok
returns-in_ok-write-in-Some-clause-ok g c =
    wrote_one (rw c.in-Some.is at c.in_ok-ready.ensures.emitted) c.in_ok-write-in-Some.ensures.ok
    c.in_ok-write-in-Some.ensures.counts
