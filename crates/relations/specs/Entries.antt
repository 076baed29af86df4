-- Rows behind their keys, in their order: by key, then by row.
use Rattle.std.specs.Prelude.{ℕ, List}
use Rattle.std.specs.Cmp.{IsTotalOrder, on_total, then_total}
use Rattle.std.specs.declared.cmp.Ordering.{Ordering}
use Rattle.std.specs.Ordering.{on, then_cmp}
use Rattle.mfotl_model.specs.Tables.{part}
use Rattle.mfotl_model.specs.Values.{row_cmp, row_total}
use Rattle.mfotl_model.specs.declared.value.Value.{Value}
use Rattle.relations.specs.declared.entry.Entry.{Entry}

-- entries by their keys, then by their rows
abbrev pub entry_cmp : Entry → Entry → Ordering
entry_cmp = then_cmp (on (λ e. e.key) row_cmp) (on (λ e. e.row) row_cmp)

-- this is an order in which any two entries have a place
pub entry_total : IsTotalOrder entry_cmp
entry_total = then_total (on_total (λ e. e.key) row_total) (on_total (λ e. e.row) row_total)

-- a row behind its part at the key's columns
abbrev pub keyed_entry : List ℕ → List ℕ → List Value → Entry
keyed_entry columns key_columns row = record { key = part columns key_columns row; row = row }
