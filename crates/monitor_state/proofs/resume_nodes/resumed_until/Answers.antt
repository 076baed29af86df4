use Rattle.monitor_state.proofs.ResumeNodes.{until_node_fits, until_resumed_node}
use Rattle.monitor_state.proofs.resume_nodes.resumed_until.Goals as goal

pub until_resumed-requires : goal.until_resumed-requires
until_resumed-requires c =
    let fits = rw (c.in-Window.is, c.in-Until.is) at c.requires in
    record { rule = until_node_fits c.args.times.now c.args.state c.args.order c.in-Until.data fits.0 fits.1 fits.2 }

pub returns : goal.returns
returns c =
    rw (c.in-Window.is, c.in-Until.is)
    (until_resumed_node c.args.times.now c.args.state c.in_ok-resumed.resumed c.args.order c.in-Until.data
    c.in_ok-resumed.ensures)
