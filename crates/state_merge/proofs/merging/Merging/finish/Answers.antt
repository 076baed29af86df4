use Rattle.mfotl_model.specs.Regions.{near_of}
use Rattle.monitorable.specs.Cores.{core_form}
use Rattle.monitor_state.specs.Pieces.{view_of}
use Rattle.state_merge.proofs.MergeLaws.{finished, whole_rule, whole_some}
use Rattle.state_merge.specs.MergingView.{merging_of}
use Rattle.state_merge.proofs.merging.Merging.finish.Goals as goal

pub resume-requires : goal.resume-requires
resume-requires c = record { rule = whole_rule (merging_of c.args.self) c.in-Some.state c.in-Some.is c.requires.whole }

pub returns-clause-stands : goal.returns-clause-stands
returns-clause-stands c = λ s s2 k2 log ks all merged suits.
    let core = core_form c.args.self.core in
    c.in_ok-monitor.ensures.stands (view_of core (near_of s2 k2) log) suits
    (finished core s s2 k2 log ks c.args.self.merged c.in-Some.state c.in-Some.is all merged).1

pub unreachable-requires : goal.unreachable-requires
unreachable-requires c = whole_some (merging_of c.args.self) c.requires.whole c.in_default.is
