use Rattle.slice_strategy.proofs.StrategyLaws.{value_given, fault_shown, size_given, workers_given}
use Rattle.slice_strategy.proofs.strategy.Strategy.read.Goals as goal

pub returns-clause-sized : goal.returns-clause-sized
returns-clause-sized c =
    size_given c.args.policy.now.vars c.args.bytes.now c.read_strategy.result
    (rw c.as_slice.ensures at c.read_strategy.ensures)

pub returns-clause-value : goal.returns-clause-value
returns-clause-value c =
    value_given c.args.policy.now.vars c.args.bytes.now c.read_strategy.result
    (rw c.as_slice.ensures at c.read_strategy.ensures)

pub returns-clause-shown : goal.returns-clause-shown
returns-clause-shown c =
    fault_shown c.args.policy.now.vars c.args.bytes.now c.read_strategy.result
    (rw c.as_slice.ensures at c.read_strategy.ensures)

pub returns-clause-workers : goal.returns-clause-workers
returns-clause-workers c =
    workers_given c.args.policy.now.vars c.args.bytes.now c.read_strategy.result
    (rw c.as_slice.ensures at c.read_strategy.ensures)
