use Rattle.std.proofs.Common.{arith, rules}
use Rattle.std.proofs.{lemmas.Grind.common_steps}
use Rattle.mfotl_model.specs.Strategies.{workers_of}
use Rattle.main_steps.proofs.ChangeLemmas.{highest_more}
use Rattle.main_steps.proofs.schedule.most_workers.Goals as goal

-- the next change's strategy was looked at, too
pub loop-change-preserved : goal.loop-change-preserved
loop-change-preserved c =
    record {
      some = search rules;
      first = search rules;
      changes = grind (arith, common_steps);
      attained = highest_more (workers_of c.args.first.now) c.loop-change.most c.workers.result c.max-most.result
          c.loop-change.change-index c.args.changes.now c.change-item.result c.max-most.ensures c.workers.ensures.count
          c.change-item.is c.loop-change-test.true c.loop-change.invariant.attained;
    }
