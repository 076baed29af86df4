-- Rows with the times kept for them, in groups by their part at the columns that they are grouped by.
use Rattle.std.specs.Prelude.{ℕ, ◌<◌, Bool, cond, ◌&&◌, List, length, None}
use Rattle.std.specs.Option.{IfSome}
use Rattle.std.specs.Ordering.{eq_by_cmp}
use Rattle.mfotl_model.specs.Values.{row_cmp}
use Rattle.mfotl_model.specs.declared.interval.Interval.{Interval}
use Rattle.mfotl_model.specs.declared.value.Value.{Value}
use Rattle.relations.specs.KeptRows.{kept_for, list_for}
use Rattle.row_times.specs.Times.{reaches}

-- the times kept for a row in the group of a part
abbrev pub times_at : List (List Value × List (List Value × List ℕ)) → List Value → List Value → List ℕ
times_at groups key row = list_for (list_for groups key) row

-- each row of a group has a time
abbrev pub HaveTimes : List (List Value × List ℕ) → Type 0
HaveTimes group = (v : List Value) → IfSome (kept_for group v) (λ times. 0 < length times)

-- each group has a row, and each of its rows a time
abbrev pub NoneEmpty : List (List Value × List (List Value × List ℕ)) → Type 0
NoneEmpty groups = (q : List Value) → IfSome (kept_for groups q) (λ group. (0 < length group) × HaveTimes group)

-- the same but for the group of a key, where that is to go
abbrev pub NoneEmptyBut : Bool → List Value → List (List Value × List (List Value × List ℕ)) → Type 0
NoneEmptyBut goes key groups =
    (q : List Value) → IfSome (cond (goes && eq_by_cmp row_cmp key q) None (kept_for groups q))
    (λ group. (0 < length group) × HaveTimes group)

-- whether an entry of a group is the row's and reaches
abbrev pub hit : Interval → ℕ → List Value → List Value × List ℕ → Bool
hit interval x row entry = eq_by_cmp row_cmp row entry.0 && reaches interval entry.1 x
