-- The plain data of SINCE: rows with their times, and what they say of a row.
use Rattle.std.specs.Prelude.{ℕ, Bool, ◌&&◌, cond, nat_eq, List, [], ◌∷◌}
use Rattle.std.specs.BTreeMap.{is_at}
use Rattle.std.specs.List.{list_any}
use Rattle.std.specs.Ordering.{eq_by_cmp}
use Rattle.mfotl_model.specs.Tables.{has_row, part}
use Rattle.mfotl_model.specs.Values.{row_cmp}
use Rattle.mfotl_model.specs.declared.interval.Interval.{Interval}
use Rattle.mfotl_model.specs.declared.value.Value.{Value}
use Rattle.row_times.specs.Times.{reaches}
use Rattle.row_times.specs.declared.kept_row.KeptRow.{KeptRow}

-- whether some time that is kept with the row lies in the interval, seen from x
abbrev pub recalls : Interval → List KeptRow → ℕ → List Value → Bool
recalls interval rows x u = list_any (λ k. eq_by_cmp row_cmp u k.row && reaches interval k.times.items x) rows

-- the times of the row v in the group q, once those of all these rows were put into the groups of their parts
abbrev pub put_times : List ℕ → List ℕ → List (List Value × List ℕ) → List Value → List Value → List ℕ → List ℕ
put_times right left [] q v times = times
put_times right left (e ∷ es) q v times = put_times right left es q v
    (cond (is_at (row_cmp (part right left e.0)) q && is_at (row_cmp e.0) v) e.1 times)

-- whether some of the rows is v and has the time y
abbrev pub is_recalled : List KeptRow → List Value → ℕ → Bool
is_recalled rows v y = list_any (λ k. list_any (λ t. nat_eq t y && has_row (k.row ∷ []) v) k.times.items) rows
