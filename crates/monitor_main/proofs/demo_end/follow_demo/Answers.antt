use Rattle.std.proofs.Common.{List, codes, subst}
use Rattle.std.proofs.lemmas.Result.{err_from_is_err_and}
use Rattle.mon_outside.specs.{Files.content, Memory.as_files, declared.mem_inputs.NamedFile.NamedFile}
use Rattle.monitor_main.specs.{CheckedPolicies.checked_in, DemoRuns.EndsOn, Tasks.task_on}
use Rattle.monitor_main.proofs.demo_end.follow_demo.Goals as goal

pub returns-in_err-task-clause-refused : goal.returns-in_err-task-clause-refused
returns-in_err-task-clause-refused g c =
    let p = err_from_is_err_and c.from_residual.result c.from_residual.ensures.1 in
    rw (p.1, p.2) c.in_err-task.ensures.refused

pub returns-clause-ok : goal.returns-clause-ok
returns-clause-ok g c =
    let checked = checked_in c.in_ok-task.task.checked in
    record {
      task = task_on checked (content (as_files c.in_ok-task.files.items) (codes "log"));
      is = c.in_ok-task.ensures.ok;
      ends = subst (λ (files : List NamedFile). EndsOn (task_on checked (content (as_files files) (codes "log")))
          c.follow_log.result) c.as_slice.ensures.value c.follow_log.ensures;
    }
