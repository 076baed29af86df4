use Rattle.std.proofs.Common.{arith, ◌<◌}
use Rattle.mfotl_model.specs.Strategies.{workers_of}
use Rattle.monitorable.specs.Cores.{core_form}
use Rattle.rescale_worker.proofs.SliceLemmas.{first_active}
use Rattle.rescale_worker.proofs.worker.first_phase.Goals as goal

pub returns : goal.returns
returns c =
    let few = c.workers.ensures.count in
    let else_ = c.if-number-workers.false in
    let low : c.args.number < workers_of c.args.strategy.now = omega arith in
    first_active (core_form c.args.core.now) c.args.strategy.now c.in_ok-strategy.strategy c.args.number
    c.in_ok-monitor.monitor c.in_ok-monitor.ensures.core c.in_ok-monitor.ensures.begins c.in_ok-strategy.ensures.same
    low
