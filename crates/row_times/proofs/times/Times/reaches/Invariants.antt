use Rattle.std.proofs.Common.{◌≡◌, drop}
use Rattle.row_times.specs.Times.{reaches}
use Rattle.row_times.proofs.times.Times.reaches.Given as goal

abbrev pub invariant-loop-i : goal.invariant-loop-i
invariant-loop-i l = reaches l.interval (drop l.i l.self-inside.list) l.x ≡ reaches l.interval l.fn.self l.x
