-- Which rows over some columns a region keeps.
use Rattle.std.specs.Prelude.{◌≡◌, ℕ, Bool, ◌&&◌, nat_eq, List, filter, length}
use Rattle.row_times.specs.KeptTimes.{times_kept}
use Rattle.eval_since.specs.declared.recalled.SinceData.{SinceData}
use Rattle.until_rows.specs.Recalled.{starts_kept}
use Rattle.eval_until.specs.declared.recalled.UntilData.{UntilData}
use Rattle.mfotl_model.specs.Regions.{Region}
use Rattle.mfotl_model.specs.declared.value.Value.{Value}
use Rattle.monitor_state.specs.StateCuts.{cut_tables, lies}
use Rattle.monitor_state.specs.StateStands.{marks_kept}

-- whether the row has a value for each column, and lies in the region
abbrev pub is_kept : Region → List ℕ → List Value → Bool
is_kept near columns row = nat_eq (length row) (length columns) && lies near columns row

-- such rows, with what is kept for them
abbrev pub rows_inside : {X : Type 0} → Region → List ℕ → List (List Value × X) → List (List Value × X)
rows_inside near columns rows = filter (λ e. is_kept near columns e.0) rows

-- the data of a SINCE with the rows that the region keeps, over these columns
pub record SinceDealt (near : Region) (columns : List ℕ) (old new : SinceData) : Type 0 where
  pub pulled : new.pulled ≡ old.pulled
  pub lefts : new.lefts.items ≡ cut_tables near old.lefts.items
  pub rights : new.rights.items ≡ cut_tables near old.rights.items
  pub rows : times_kept new.rows.items ≡ rows_inside near columns (times_kept old.rows.items)

-- the same of an UNTIL, where the starts are over the left columns, and the rows over the right ones
pub record UntilDealt (near : Region) (left right : List ℕ) (old new : UntilData) : Type 0 where
  pub pulled : new.pulled ≡ old.pulled
  pub taken : new.taken ≡ old.taken
  pub lefts : new.lefts.items ≡ cut_tables near old.lefts.items
  pub rights : new.rights.items ≡ cut_tables near old.rights.items
  pub starts : starts_kept new.starts.items ≡ rows_inside near left (starts_kept old.starts.items)
  pub rows : marks_kept new.rows.items ≡ rows_inside near right (marks_kept old.rows.items)
