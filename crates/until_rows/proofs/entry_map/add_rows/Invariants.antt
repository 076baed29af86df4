use Rattle.std.proofs.Common.{◌≡◌, ◌∷◌, ◌++◌, [], List, cond, take}
use Rattle.mfotl_model.specs.Tables.{has_row, part}
use Rattle.mfotl_model.specs.declared.value.Value.{Value}
use Rattle.relations.specs.KeptRows.{list_for}
use Rattle.until_rows.specs.{Rules.NoneEmpty, Starts.start_of}
use Rattle.until_rows.proofs.entry_map.add_rows.Given as goal

abbrev pub invariant-loop-row : goal.invariant-loop-row
invariant-loop-row l = record {
  entries : (u : List Value) → list_for l.rows.entries u
      ≡ cond (has_row (take l.row-index l.table) u) (list_for l.fn.rows.entries u ++ record {
        place = l.place;
        start = start_of l.negated l.place l.starts (part l.right l.left u);
        ts = l.ts;
      } ∷ []) (list_for l.fn.rows.entries u);
  some : NoneEmpty l.fn.rows.entries → NoneEmpty l.rows.entries;
}
