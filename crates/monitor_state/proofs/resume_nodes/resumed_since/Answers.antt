use Rattle.monitor_state.proofs.ResumeNodes.{since_resumed_node}
use Rattle.monitor_state.proofs.resume_nodes.resumed_since.Goals as goal

pub returns : goal.returns
returns c =
    rw (c.in-Window.is, c.in-Since.is)
    (since_resumed_node c.args.times.now c.args.state c.in_ok-resumed.resumed c.args.order c.in-Since.data
    c.in_ok-resumed.ensures)
