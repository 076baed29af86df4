use Rattle.slice_strategy.proofs.ChangeTextLaws.{value_given, fault_shown, workers_given}
use Rattle.slice_strategy.proofs.script.read_changes.Goals as goal

pub returns-clause-value : goal.returns-clause-value
returns-clause-value c =
    value_given (λ changes. changes.items) c.args.policy.now.vars c.args.bytes.now c.read_script.result
    (rw c.as_slice.ensures at c.read_script.ensures)

pub returns-clause-shown : goal.returns-clause-shown
returns-clause-shown c =
    fault_shown (λ changes. changes.items) c.args.policy.now.vars c.args.bytes.now c.read_script.result
    (rw c.as_slice.ensures at c.read_script.ensures)

pub returns-clause-workers : goal.returns-clause-workers
returns-clause-workers c =
    workers_given (λ changes. changes.items) c.args.policy.now.vars c.args.bytes.now c.read_script.result
    (rw c.as_slice.ensures at c.read_script.ensures)
