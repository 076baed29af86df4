use Rattle.monitor_state.proofs.ResumeKinds.{filter_kept}
use Rattle.monitor_state.proofs.resume_nodes.resumed_filter.Goals as goal

pub unreachable-requires : goal.unreachable-requires
unreachable-requires c =
    let own = filter_kept c.args.times.now c.args.state c.requires.0 c.args.kept c.requires.1 c.requires.2 in
    c.in_default.not-Filter own.0 own.1 own.2
