-- What holds of all that UNTIL keeps: starts of runs, entries of rows, and the queue that finds them.
use Rattle.std.specs.Prelude.{◌≡◌, ℕ, ◌+◌, Bool, true, false, ◌&&◌, ◌⊎◌, nat_eq, nat_le, nat_lt, Option, None, List, []}
use Rattle.std.specs.Prelude.{◌∷◌, ◌++◌, length}
use Rattle.std.specs.List.{list_any, list_all}
use Rattle.std.specs.Option.{IfSome}
use Rattle.mfotl_model.specs.Tables.{all_apart, has_row}
use Rattle.mfotl_model.specs.declared.value.Value.{Value}
use Rattle.relations.specs.KeptRows.{kept_for, list_for}
use Rattle.relations.specs.Queues.{RisesBy}
use Rattle.eval_until.specs.declared.contents.Taken.{Taken}
use Rattle.until_rows.specs.declared.entries.Entry.{Entry}
use Rattle.until_rows.specs.Entries.{from_place}
use Rattle.eval_until.specs.Rules.{Ascending, StartsBelow}
use Rattle.until_rows.specs.Rules.{NoneEmpty}
use Rattle.until_rows.specs.Starts.{later_start}

-- each row that entries are kept for has n values
abbrev pub Sized : ℕ → List (List Value × List Entry) → Type 0
Sized n rows = (u : List Value) → nat_eq (length u) n ≡ false → list_for rows u ≡ []

-- each row that a start is kept for has n values
abbrev pub SizedStarts : ℕ → List (List Value × ℕ) → Type 0
SizedStarts n starts = (w : List Value) → nat_eq (length w) n ≡ false → kept_for starts w ≡ None

-- each entry stands before p, and its run doesn't begin behind it
abbrev pub Below : ℕ → List (List Value × List Entry) → Type 0
Below p rows = (u : List Value)
    → list_all (λ e. nat_lt e.place p && nat_le e.start e.place) (list_for rows u) ≡ true

-- whether the queue has the row among the right operand's at the position j
abbrev pub names : List Taken → List Value → ℕ → Bool
names queue u j = list_any (λ q. nat_eq q.place j && has_row q.rights.items u) queue

-- whether the queue has the row among those whose runs break before the position s
abbrev pub breaks_before : List Taken → List Value → ℕ → Bool
breaks_before queue w s = list_any (λ q. nat_eq (q.place + 1) s && has_row q.breaks.items w) queue

-- each entry's position stands in the queue, with its row
abbrev pub Covered : List Taken → List (List Value × List Entry) → Type 0
Covered queue rows = (u : List Value) → list_all (λ e. names queue u e.place) (list_for rows u) ≡ true

-- so does each start's
abbrev pub CoveredStarts : List Taken → List (List Value × ℕ) → Type 0
CoveredStarts queue starts = (w : List Value)
    → IfSome (kept_for starts w) (λ s. breaks_before queue w s ≡ true)

-- the queue's positions never fall
abbrev pub Rising : List Taken → Type 0
Rising queue = RisesBy (λ (q : Taken). q.place) queue

-- a position goes into the queue, or has no rows there
abbrev pub Queues : List Taken → Taken → List Taken → Type 0
Queues old q new = (new ≡ old ++ q ∷ []) ⊎ ((new ≡ old) × ((q.rights.items ≡ []) × (q.breaks.items ≡ [])))

-- each of the queue's positions is below p
abbrev pub NotAfter : ℕ → List Taken → Type 0
NotAfter p queue = list_all (λ q. nat_lt q.place p) queue ≡ true

-- none of them is below next
abbrev pub Fresh : ℕ → List Taken → Type 0
Fresh next queue = list_all (λ q. nat_le next q.place) queue ≡ true

-- a list of entries as it is, or without those before next
abbrev pub IsThinned : ℕ → List Entry → List Entry → Type 0
IsThinned next old new = (new ≡ old) ⊎ (new ≡ from_place next old)

-- a start as it is, or that of a negated operand only where it is behind next
abbrev pub IsLater : Bool → ℕ → Option ℕ → Option ℕ → Type 0
IsLater negated next old new = (new ≡ old) ⊎ ((negated ≡ true) × (new ≡ later_start next old))

-- what holds of all that is kept where the positions below taken were taken, and those below pulled pulled
pub record Keeps (negated : Bool) (right : List ℕ) (pulled taken : ℕ) (starts : List (List Value × ℕ))
    (rows : List (List Value × List Entry)) (queue : List Taken) : Type 0 where
  pub apart : all_apart right ≡ true
  pub sized : Sized (length right) rows
  pub some : NoneEmpty rows
  pub ascend : Ascending rows
  pub below : Below taken rows
  pub low : StartsBelow taken starts
  pub covered : Covered queue rows
  pub breaks : negated ≡ true → CoveredStarts queue starts
  pub rising : Rising queue
  pub after : NotAfter taken queue
  pub fresh : Fresh pulled queue
