use Rattle.std.proofs.Common.{◌≡◌, ◌++◌, map, drop, true}
use Rattle.std.specs.List.{list_all}
use Rattle.until_rows.specs.{Recalled.entry_at, Timed.has_time}
use Rattle.until_rows.proofs.plain.entries_of.Given as goal

abbrev pub invariant-loop-mark : goal.invariant-loop-mark
invariant-loop-mark l = record {
  entries : l.entries.items ++ map (entry_at l.pulled l.times) (drop l.mark-index l.marks)
      ≡ map (entry_at l.pulled l.times) l.marks;
  timed : list_all (has_time l.pulled l.times) (map (entry_at l.pulled l.times) (drop l.mark-index l.marks)) ≡ true;
}
