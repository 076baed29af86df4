use Rattle.std.proofs.Common.{refl, sym}
use Rattle.std.proofs.lemmas.Bool.{eqb-true}
use Rattle.state_merge.specs.MergingView.{merging_of}
use Rattle.rescale_worker.proofs.MergeLemmas.{finishes, is_whole}
use Rattle.rescale_worker.proofs.rescaling.settle.Goals as goal

pub finish-requires : goal.finish-requires
finish-requires c =
    let m = merging_of c.args.merging in
    let all = eqb-true m.adopted m.count (sym c.if-is_complete.ensures) in
    record { whole = is_whole c.args.merging (c.requires.full all) }

pub returns-in_ok-monitor : goal.returns-in_ok-monitor
returns-in_ok-monitor c =
    let e = c.in_ok-monitor.ensures in
    let m = merging_of c.args.merging in
    let all = eqb-true m.adopted m.count (sym c.if-is_complete.ensures) in (
      (λ same. (c.in_ok-monitor.monitor, refl, finishes c.args.merging c.in_ok-monitor.monitor e.core e.stands)),
      λ other. absurd (other all),
    )
