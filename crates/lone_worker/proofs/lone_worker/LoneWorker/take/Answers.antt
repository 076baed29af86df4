use Rattle.std.proofs.lemmas.Result.{on_err_weaker, on_ok_weaker}
use Rattle.lone_worker.proofs.AloneLemmas.{are_kept, falls_short, owes_new, took_one}
use Rattle.lone_worker.proofs.ErrorLemmas.{on_err}
use Rattle.lone_worker.proofs.lone_worker.LoneWorker.take.Goals as goal

pub returns-in_err-tables-clause-err : goal.returns-in_err-tables-clause-err
returns-in_err-tables-clause-err g c =
    on_err c.from_residual.result _ (λ core start points follows w. falls_short follows w)

pub write_tables-requires : goal.write_tables-requires
write_tables-requires g c = record {
  kept = rw c.given-first.ensures
      (are_kept c.step.new.self c.requires.may.3 c.requires.may.4 c.in_ok-tables.ensures.steps
      c.in_ok-tables.ensures.first);
}

pub returns-clause-err : goal.returns-clause-err
returns-clause-err g c =
    on_err_weaker c.write_tables.result
    (λ falls core start points follows w.
    falls core _ start (owes_new c.step.new.self follows w c.in_ok-tables.ensures.steps))
    (rw c.given-first.ensures at c.write_tables.ensures.err)

pub returns-clause-ok : goal.returns-clause-ok
returns-clause-ok g c =
    let steps = c.in_ok-tables.ensures.steps in
    on_ok_weaker c.write_tables.result
    (λ settles core start points follows w.
    took_one c.step.new.self follows w steps c.write_tables.ensures.same c.in_ok-tables.ensures.core
    (settles core _ start (owes_new c.step.new.self follows w steps)))
    (rw c.given-first.ensures at c.write_tables.ensures.ok)
