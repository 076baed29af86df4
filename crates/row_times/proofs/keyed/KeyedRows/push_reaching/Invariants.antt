use Rattle.std.proofs.Common.{◌≡◌, ◌||◌, List}
use Rattle.std.specs.List.{list_any}
use Rattle.mfotl_model.specs.declared.value.Value.{Value}
use Rattle.row_times.specs.{Groups.hit, RowKeys.by_rows}
use Rattle.mfotl_model.specs.Tables.{has_row}
use Rattle.row_times.proofs.keyed.KeyedRows.push_reaching.Given as goal

-- what was found and what is left to look through
abbrev pub invariant-loop-key : goal.invariant-loop-key
invariant-loop-key g l = (u : List Value) →
    (has_row l.out.items u || list_any (hit l.interval l.x u) (by_rows g.K.RowKey.row_of l.key-iterator))
    ≡ (has_row l.fn.out.items u || list_any (hit l.interval l.x u) (by_rows g.K.RowKey.row_of l.fn.self))
