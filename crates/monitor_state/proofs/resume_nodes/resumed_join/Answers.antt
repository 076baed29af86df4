use Rattle.monitor_state.proofs.ResumeKinds.{join_kept}
use Rattle.monitor_state.proofs.ResumeNodes.{join_fits, join_resumed}
use Rattle.monitor_state.proofs.resume_nodes.resumed_join.Goals as goal

pub unreachable-requires : goal.unreachable-requires
unreachable-requires c =
    let own = join_kept c.args.times.now c.args.state c.requires.0 c.args.kept c.requires.1 c.requires.2 in
    c.in_default.not-Join own.0 own.1

pub resumed-requires : goal.resumed-requires
resumed-requires c =
    let fits = rw c.in-Join.is at c.requires in
    record { rule = join_fits c.args.times.now c.args.state c.in-Join.data fits.0 fits.1 fits.2 }

pub returns : goal.returns
returns c =
    rw c.in-Join.is
    (join_resumed c.args.times.now c.args.state c.in_ok-resumed.resumed c.in-Join.data c.in_ok-resumed.ensures)
