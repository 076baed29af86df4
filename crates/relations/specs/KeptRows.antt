-- Rows with what is kept for each of them, as lists of pairs.
use Rattle.std.specs.Prelude.{cond, Option, Some, None, List, [], ◌∷◌}
use Rattle.std.specs.BTreeMap.{is_at}
use Rattle.std.specs.List.{IsDistinct}
use Rattle.std.specs.List.Sorted.{IsStrictlySortedBy}
use Rattle.std.specs.Map.{lookup, keys_of}
use Rattle.std.specs.Option.{option_or, unwrap_or}
use Rattle.std.specs.Ordering.{eq_by_cmp}
use Rattle.mfotl_model.specs.Values.{row_cmp}
use Rattle.mfotl_model.specs.declared.value.Value.{Value}

-- what is kept for a row, if the row is there
abbrev pub kept_for : {X : Type 0} → List (List Value × X) → List Value → Option X
kept_for rows u = lookup (is_at (row_cmp u)) rows

-- the list that is kept for a row, an empty one where the row isn't there
abbrev pub list_for : {X : Type 0} → List (List Value × List X) → List Value → List X
list_for rows u = unwrap_or (kept_for rows u) []

-- the rows ascend strictly
abbrev pub RowsAscend : {X : Type 0} → List (List Value × X) → Type 0
RowsAscend rows = IsStrictlySortedBy row_cmp (keys_of rows)

-- no row is there twice
abbrev pub RowsDiffer : {X : Type 0} → List (List Value × X) → Type 0
RowsDiffer rows = IsDistinct (eq_by_cmp row_cmp) (keys_of rows)

-- a list as it is kept: not at all where it is empty
abbrev pub filled : {X : Type 0} → List X → Option (List X)
filled [] = None
filled (x ∷ xs) = Some (x ∷ xs)

-- the first list of a row that isn't empty
abbrev pub first_filled : {X : Type 0} → List (List Value × List X) → List Value → Option (List X)
first_filled [] u = None
first_filled (e ∷ es) u = option_or (cond (is_at (row_cmp u) e.0) (filled e.1) None) (first_filled es u)

-- what is kept for a row in the last of the pairs that are its, or what was kept before
abbrev pub last_for : {X : Type 0} → List (List Value × X) → List Value → Option X → Option X
last_for [] u o = o
last_for (e ∷ es) u o = last_for es u (cond (is_at (row_cmp e.0) u) (Some e.1) o)
