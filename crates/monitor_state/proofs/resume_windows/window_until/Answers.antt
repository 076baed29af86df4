use Rattle.monitor_state.proofs.ResumeNodes.{until_in_window}
use Rattle.monitor_state.proofs.resume_windows.window_until.Goals as goal

pub returns : goal.returns
returns c =
    rw c.in-Until.is
    (until_in_window c.args.times.now c.args.state c.in_ok-resumed.resumed c.in-Until.kept c.in_ok-resumed.ensures)
