-- From which position on the times and the starts of a row's entries are in order.
use Rattle.std.specs.Prelude.{◌≡◌, ℕ, ◌-◌, ◌<◌, ◌^◌, max, Option, List, [], length, MatchOption, slice_index_or}
use Rattle.std.specs.List.Sorted.{IsNonDecreasingBy}
use Rattle.until_rows.specs.declared.entries.Entry.{Entry}
use Rattle.until_rows.specs.Rules.{PlacesAscend}

-- seen from a position on, neither the times nor the starts of entries fall: the starts up to it are alike
pub record RiseFrom (position : ℕ) (entries : List Entry) : Type 0 where
  pub times : IsNonDecreasingBy (λ e. e.ts) entries
  pub starts : IsNonDecreasingBy (λ e. max e.start position) entries

-- the level that is no position
abbrev pub never : ℕ
never = 2 ^ 64 - 1

-- entries rise from their level on, where it is a position
abbrev pub HasLevel : ℕ → List Entry → Type 0
HasLevel level entries = level < never → RiseFrom level entries

-- the last of entries, if there is one
abbrev pub IsLast : Option Entry → List Entry → Type 0
IsLast last entries = MatchOption last (entries ≡ [])
    (λ e. (0 < length entries) × (e ≡ slice_index_or entries (length entries - 1) e))

-- a row's entries: by ascending positions, and with their level
pub record AreKept (level : ℕ) (entries : List Entry) : Type 0 where
  pub places : PlacesAscend entries
  pub rising : HasLevel level entries
