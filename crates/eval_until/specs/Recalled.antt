-- What a queue made of rows and starts names.
use Rattle.std.specs.Prelude.{ℕ, ◌+◌, ◌-◌, Bool, ◌&&◌, nat_eq, List, [], ◌∷◌}
use Rattle.std.specs.List.{list_any}
use Rattle.mfotl_model.specs.Tables.{has_row}
use Rattle.mfotl_model.specs.declared.value.Value.{Value}
use Rattle.until_rows.specs.declared.entries.Entry.{Entry}

-- whether some of the rows is u and has an entry at the position j
abbrev pub is_recalled : List (List Value × List Entry) → List Value → ℕ → Bool
is_recalled rows u j = list_any (λ r. list_any (λ e. nat_eq e.place j && has_row (r.0 ∷ []) u) r.1) rows

-- whether some of the rows is w and its run begins at s
abbrev pub run_begins : List (List Value × ℕ) → List Value → ℕ → Bool
run_begins starts w s = list_any (λ r. nat_eq (r.1 - 1 + 1) s && has_row (r.0 ∷ []) w) starts
