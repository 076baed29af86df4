use Rattle.std.proofs.Common.{◌≡◌, List}
use Rattle.std.specs.Option.{option_or}
use Rattle.mfotl_model.specs.declared.value.Value.{Value}
use Rattle.relations.specs.KeptRows.{first_filled, kept_for}
use Rattle.row_times.specs.RowKeys.{by_rows}
use Rattle.row_times.proofs.keyed.KeyedRows.pour.Given as goal

abbrev pub invariant-loop-key : goal.invariant-loop-key
invariant-loop-key g l = (u : List Value) →
    option_or (kept_for l.out u) (first_filled (by_rows g.K.RowKey.row_of l.key-iterator) u)
    ≡ option_or (kept_for l.fn.out u) (first_filled (by_rows g.K.RowKey.row_of l.fn.self) u)
