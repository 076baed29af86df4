use Rattle.std.proofs.Common.{◌≡◌, List, None}
use Rattle.mfotl_model.specs.declared.value.Value.{Value}
use Rattle.relations.specs.KeptRows.{RowsAscend, kept_for, last_for}
use Rattle.until_rows.specs.Recalled.{starts_kept}
use Rattle.until_rows.proofs.plain.starts_map.Given as goal

abbrev pub invariant-loop-kept : goal.invariant-loop-kept
invariant-loop-kept l = record {
  found : (w : List Value) →
      last_for (starts_kept l.kept-iterator.rest.items) w (kept_for l.map.entries w)
      ≡ last_for (starts_kept l.fn.starts.items) w None;
  ascend : RowsAscend l.map.entries;
}
