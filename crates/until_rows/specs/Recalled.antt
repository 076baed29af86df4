-- The rows of plain data, as pairs.
use Rattle.std.specs.Prelude.{ℕ, ◌-◌, List, map, slice_index}
use Rattle.mfotl_model.specs.declared.value.Value.{Value}
use Rattle.until_rows.specs.declared.entries.Entry.{Entry}
use Rattle.until_rows.specs.declared.recalled.KeptMarks.{KeptMarks}
use Rattle.until_rows.specs.declared.recalled.KeptStart.{KeptStart}
use Rattle.until_rows.specs.declared.recalled.Mark.{Mark}

-- the entry of a mark, where `next` are the times of the positions from `pulled` on
abbrev pub entry_at : ℕ → List ℕ → Mark → Entry
entry_at pulled next m = record { place = m.place; start = m.start; ts = slice_index next (m.place - pulled) }

-- the rows with their entries
abbrev pub entries_kept : ℕ → List ℕ → List KeptMarks → List (List Value × List Entry)
entries_kept pulled next rows = map (λ k. (k.row, map (entry_at pulled next) k.marks.items)) rows

-- the rows with their starts
abbrev pub starts_kept : List KeptStart → List (List Value × ℕ)
starts_kept starts = map (λ k. (k.row, k.start)) starts
