-- The rules of entries: those of a row by ascending positions, and no row without any.
use Rattle.std.specs.Prelude.{◌≡◌, ℕ, ◌<◌, Bool, true, nat_lt, List, [], ◌∷◌, length}
use Rattle.std.specs.List.{list_all}
use Rattle.std.specs.Option.{IfSome}
use Rattle.mfotl_model.specs.declared.value.Value.{Value}
use Rattle.relations.specs.KeptRows.{kept_for}
use Rattle.until_rows.specs.declared.entries.Entry.{Entry}

-- whether each of the entries stands before a position
abbrev pub all_before : ℕ → List Entry → Bool
all_before p entries = list_all (λ e. nat_lt e.place p) entries

-- the positions of entries ascend strictly
abbrev pub PlacesAscend : List Entry → Type 0
PlacesAscend [] = Unit {0}
PlacesAscend (e ∷ es) = (list_all (λ f. nat_lt e.place f.place) es ≡ true) × PlacesAscend es

-- each row that is kept has an entry
abbrev pub NoneEmpty : List (List Value × List Entry) → Type 0
NoneEmpty rows = (u : List Value) → IfSome (kept_for rows u) (λ entries. 0 < length entries)
