use Rattle.std.proofs.Common.{◌≡◌, drop}
use Rattle.monitor_state.proofs.monitor.keep_time.Given as goal

abbrev pub invariant-loop-place : goal.invariant-loop-place
invariant-loop-place l = l.times.items ≡ drop l._place l.initial.times.items
