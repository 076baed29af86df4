use Rattle.std.proofs.Common.{◌≡◌, length}
use Rattle.std.specs.List.Sorted.{IsStrictlyIncreasing}
use Rattle.row_times.specs.Times.{recent}
use Rattle.row_times.proofs.times.Times.forget.Given as goal

abbrev pub invariant-loop-first : goal.invariant-loop-first
invariant-loop-first l = record {
  ascends : IsStrictlyIncreasing l.self-inside.list;
  same : recent l.hi l.now l.self-inside.list ≡ recent l.hi l.now l.fn.self;
}

abbrev pub decreases-loop-first : goal.decreases-loop-first
decreases-loop-first l = length l.self-inside.list
