-- Rows with their times as plain data, and what they and the groups say of a row.
use Rattle.std.specs.Prelude.{ℕ, Option, None, List, [], ◌∷◌, map}
use Rattle.std.specs.Option.{option_or}
use Rattle.mfotl_model.specs.declared.value.Value.{Value}
use Rattle.relations.specs.KeptRows.{filled, list_for}
use Rattle.row_times.specs.declared.kept_row.KeptRow.{KeptRow}

-- the rows with their times, as pairs
abbrev pub times_kept : List KeptRow → List (List Value × List ℕ)
times_kept rows = map (λ k. (k.row, k.times.items)) rows

-- the times that are kept for a row
abbrev pub times_for : List KeptRow → List Value → List ℕ
times_for rows u = list_for (times_kept rows) u

-- the times of a row in the first group that has some
abbrev pub first_times : List (List Value × List (List Value × List ℕ)) → List Value → Option (List ℕ)
first_times [] u = None
first_times (e ∷ es) u = option_or (filled (list_for e.1 u)) (first_times es u)
