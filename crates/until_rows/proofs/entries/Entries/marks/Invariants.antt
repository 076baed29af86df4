use Rattle.std.proofs.Common.{◌≡◌, map, take, drop, true}
use Rattle.std.specs.List.{list_all}
use Rattle.until_rows.specs.{Recalled.entry_at, Timed.is_timed}
use Rattle.until_rows.proofs.entries.Entries.marks.Given as goal

abbrev pub invariant-loop-k : goal.invariant-loop-k
invariant-loop-k l = record {
  marks : map (entry_at l.pulled l.times.items) l.marks.items ≡ take l.k l.self-inside.list;
  timed : list_all (is_timed l.pulled l.times.items) (drop l.k l.self-inside.list) ≡ true;
}
