-- What holds of each window.
use Rattle.std.specs.Prelude.{◌≡◌, ℕ, ◌-◌, ◌≤◌, ◌<◌, Bool, true, false, ◌&&◌, ◌⊎◌, nat_eq, nat_le, nat_lt}
use Rattle.std.specs.Prelude.{Option, Some, None, List, [], ◌∷◌, ◌++◌, length}
use Rattle.std.specs.BTreeMap.{is_at}
use Rattle.std.specs.List.Sorted.{IsStrictlyIncreasing}
use Rattle.mfotl_model.specs.Values.{row_cmp}
use Rattle.mfotl_model.specs.declared.value.Value.{Value}
use Rattle.relations.specs.Queues.{RisesBy}
use Rattle.row_times.specs.Groups.{NoneEmpty, times_at}
use Rattle.std.specs.List.{list_any, list_all}
use Rattle.row_times.specs.PackedRows.{packed_rows}
use Rattle.eval_since.specs.declared.contents.Dated.{Dated}
use Rattle.mfotl_model.specs.Tables.{all_apart, has_row, part}
use Rattle.row_times.specs.Times.{ArePast, recent}

-- no times are kept
abbrev pub IsBlank : List (List Value × List (List Value × List ℕ)) → Type 0
IsBlank groups = (q v : List Value) → times_at groups q v ≡ []

-- each row that times are kept for has n values
abbrev pub Sized : ℕ → List (List Value × List (List Value × List ℕ)) → Type 0
Sized n groups = (q v : List Value) → nat_eq (length v) n ≡ false → times_at groups q v ≡ []

-- the times of each row ascend strictly
abbrev pub Ascending : List (List Value × List (List Value × List ℕ)) → Type 0
Ascending groups = (q v : List Value) → IsStrictlyIncreasing (times_at groups q v)

-- each row has one time at most
abbrev pub Alone : List (List Value × List (List Value × List ℕ)) → Type 0
Alone groups = (q v : List Value) → length (times_at groups q v) ≤ 1

-- each row stands in the group of its own part
abbrev pub Placed : List ℕ → List ℕ → List (List Value × List (List Value × List ℕ)) → Type 0
Placed right left groups = (q v : List Value) → is_at (row_cmp (part right left v)) q ≡ false
    → times_at groups q v ≡ []

-- no kept time is after x
abbrev pub Past : ℕ → List (List Value × List (List Value × List ℕ)) → Type 0
Past x groups = (q v : List Value) → ArePast x (times_at groups q v)

-- a list of times as it is, or without the old ones
abbrev pub IsThinned : ℕ → ℕ → List ℕ → List ℕ → Type 0
IsThinned hi x old new = (new ≡ old) ⊎ (new ≡ recent hi x old)

-- whether the queue has the row at the time
abbrev pub names : List Dated → List Value → ℕ → Bool
names queue row y = list_any (λ d. nat_eq d.ts y && has_row (packed_rows d.rows) row) queue

-- each kept time stands in the queue, with its row
abbrev pub Covered : List Dated → List (List Value × List (List Value × List ℕ)) → Type 0
Covered queue groups = (q v : List Value) → list_all (names queue v) (times_at groups q v) ≡ true

-- the queue's times never fall
abbrev pub Rising : List Dated → Type 0
Rising queue = RisesBy (λ (d : Dated). d.ts) queue

-- none of the queue's times is after x
abbrev pub NotAfter : ℕ → List Dated → Type 0
NotAfter x queue = list_all (λ d. nat_le d.ts x) queue ≡ true

-- no time in the queue lies further back than hi
abbrev pub Fresh : ℕ → ℕ → List Dated → Type 0
Fresh hi x queue = list_all (λ d. nat_le (x - d.ts) hi) queue ≡ true

-- each time in the queue came with rows
abbrev pub EachHasRows : List Dated → Type 0
EachHasRows queue = list_all (λ d. nat_lt 0 (length (packed_rows d.rows))) queue ≡ true

-- a time goes into the queue with its rows, or has none
abbrev pub Queues : List Dated → ℕ → List (List Value) → List Dated → Type 0
Queues old ts rows new =
    ((d : Dated) × (d.ts ≡ ts) × (packed_rows d.rows ≡ rows) × (0 < length rows) × (new ≡ old ++ d ∷ []))
    ⊎ ((new ≡ old) × (rows ≡ []))

-- no kept time lies further back than hi
abbrev pub Bounded : ℕ → ℕ → List (List Value × List (List Value × List ℕ)) → Type 0
Bounded hi x groups = (q v : List Value) → list_all (λ y. nat_le (x - y) hi) (times_at groups q v) ≡ true

-- where the interval has a greatest number hi, the queue finds each kept time when it gets old, and has no time that
-- came without rows
abbrev pub FindsOldTimes : Option ℕ → ℕ → List (List Value × List (List Value × List ℕ)) → List Dated → Type 0
FindsOldTimes None x groups queue = Unit {0}
FindsOldTimes (Some hi) x groups queue =
    Covered queue groups × Rising queue × NotAfter x queue × Fresh hi x queue × EachHasRows queue

-- what holds of the rows and the queue kept up to the time x
pub record Keeps (hi : Option ℕ) (right left : List ℕ) (x : ℕ)
    (groups : List (List Value × List (List Value × List ℕ))) (queue : List Dated) : Type 0 where
  pub apart : all_apart right ≡ true
  pub sized : Sized (length right) groups
  pub ascend : Ascending groups
  pub alone : hi ≡ None → Alone groups
  pub some : NoneEmpty groups
  pub placed : Placed right left groups
  pub past : Past x groups
  pub finds : FindsOldTimes hi x groups queue
