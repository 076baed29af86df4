use Rattle.monitor_state.proofs.ResumeNodes.{since_in_window}
use Rattle.monitor_state.proofs.resume_windows.window_since.Goals as goal

pub returns : goal.returns
returns c =
    rw c.in-Since.is
    (since_in_window c.args.times.now c.args.state c.in_ok-resumed.resumed c.in-Since.kept c.in_ok-resumed.ensures)
