use Rattle.std.proofs.Common.{◌≡◌, List, None}
use Rattle.mfotl_model.specs.declared.value.Value.{Value}
use Rattle.relations.specs.KeptRows.{kept_for, last_for}
use Rattle.row_times.specs.RowKeys.{by_rows}
use Rattle.row_times.proofs.keyed.widened.Given as goal

abbrev pub invariant-loop-key : goal.invariant-loop-key
invariant-loop-key g l = (u : List Value) →
    last_for (by_rows g.K.RowKey.row_of l.key-iterator) u (kept_for l.rows.entries u)
    ≡ last_for (by_rows g.K.RowKey.row_of l.fn.kept) u None
