use Rattle.mfotl_plain.proofs.DomainLemmas.{points_more}
use Rattle.mfotl_plain.proofs.domain.values_of_log.Goals as goal

pub loop-point-preserved : goal.loop-point-preserved
loop-point-preserved c =
    points_more _ _ c.point-item.result c.inserted.result.now c.loop-point.values.items _
    c.loop-point-test.true c.point-item.is
    c.loop-point.invariant c.in_ok-push_arguments.ensures c.inserted.ensures
