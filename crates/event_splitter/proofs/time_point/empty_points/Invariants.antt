use Rattle.std.proofs.Common.{◌≡◌, [], replicate}
use Rattle.event_splitter.proofs.time_point.empty_points.Given as goal

abbrev pub invariant-loop : goal.invariant-loop
invariant-loop l = l.points.items ≡ replicate l.counter (record { ts = l.ts; db = [] })
