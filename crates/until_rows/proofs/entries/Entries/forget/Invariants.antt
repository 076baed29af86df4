use Rattle.std.proofs.Common.{◌≡◌, length}
use Rattle.until_rows.specs.{Entries.from_place, Levels.AreKept}
use Rattle.until_rows.proofs.entries.Entries.forget.Given as goal

abbrev pub invariant-loop-first : goal.invariant-loop-first
invariant-loop-first l = record {
  kept : AreKept l.self-inside.level l.self-inside.list;
  same : from_place l.next l.self-inside.list ≡ from_place l.next l.fn.self;
}

abbrev pub decreases-loop-first : goal.decreases-loop-first
decreases-loop-first l = length l.self-inside.list
