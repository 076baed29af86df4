use Rattle.std.proofs.Common.{◌≡◌, ◌++◌, List, true}
use Rattle.std.specs.List.{AllByRecursion, list_all}
use Rattle.mfotl_model.specs.declared.value.Value.{Value}
use Rattle.until_rows.specs.declared.entries.Entry.{Entry}
use Rattle.until_rows.specs.{Recalled.entries_kept, Timed.is_timed}
use Rattle.until_rows.proofs.plain.kept_marks.Given as goal

-- what was copied, and what is left
abbrev pub invariant-loop-row : goal.invariant-loop-row
invariant-loop-row l = record {
  rows : entries_kept l.pulled l.times.items l.kept.items ++ l.row-iterator ≡ l.rows.entries;
  timed : AllByRecursion (λ (r : List Value × List Entry). list_all (is_timed l.pulled l.times.items) r.1 ≡ true)
      l.row-iterator;
}
