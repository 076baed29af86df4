use Rattle.std.proofs.Common.{◌≡◌, List, None, true}
use Rattle.std.specs.List.{AllByRecursion, list_all}
use Rattle.mfotl_model.specs.declared.value.Value.{Value}
use Rattle.relations.specs.KeptRows.{RowsAscend, kept_for, last_for}
use Rattle.until_rows.specs.{Recalled.entries_kept, Rules.PlacesAscend, Timed.has_time}
use Rattle.until_rows.specs.declared.entries.Entry.{Entry}
use Rattle.until_rows.proofs.plain.rows_map.Given as goal

abbrev pub invariant-loop-kept : goal.invariant-loop-kept
invariant-loop-kept l = record {
  ascend : AllByRecursion (λ (r : List Value × List Entry). PlacesAscend r.1)
      (entries_kept l.pulled l.times l.kept-iterator.rest.items);
  timed : AllByRecursion (λ (r : List Value × List Entry). list_all (has_time l.pulled l.times) r.1 ≡ true)
      (entries_kept l.pulled l.times l.kept-iterator.rest.items);
  put : (u : List Value) →
      last_for (entries_kept l.pulled l.times l.kept-iterator.rest.items) u (kept_for l.map.entries u)
      ≡ last_for (entries_kept l.pulled l.times l.fn.rows.items) u None;
  sorted : RowsAscend l.map.entries;
}
