-- What is kept of positions, and no more.
use Rattle.std.specs.Prelude.{◌≡◌, ℕ, ◌<◌, ◌≤◌, Bool, true, ◌&&◌, nat_le, nat_lt, List}
use Rattle.std.specs.List.{list_all}
use Rattle.std.specs.Option.{IfSome}
use Rattle.mfotl_model.specs.declared.value.Value.{Value}
use Rattle.relations.specs.KeptRows.{kept_for, list_for}
use Rattle.until_rows.specs.Rules.{PlacesAscend}
use Rattle.until_rows.specs.Timed.{is_timed}
use Rattle.until_rows.specs.declared.entries.Entry.{Entry}

-- each entry stands at a position that was taken and not pulled, and its run doesn't begin behind it
abbrev pub Waiting : ℕ → ℕ → List (List Value × List Entry) → Type 0
Waiting pulled taken rows = (u : List Value)
    → list_all (λ e. nat_le pulled e.place && nat_lt e.place taken && nat_le e.start e.place) (list_for rows u)
    ≡ true

-- the positions of the entries of each row ascend strictly
abbrev pub Ascending : List (List Value × List Entry) → Type 0
Ascending rows = (u : List Value) → PlacesAscend (list_for rows u)

-- the position and the time of each entry pass a test
abbrev pub EachPasses : (ℕ → ℕ → Bool) → List (List Value × List Entry) → Type 0
EachPasses test rows = (u : List Value) → list_all (λ e. test e.place e.ts) (list_for rows u) ≡ true

-- each entry has the time of its position, where `times` are those of the positions from `pulled` on
abbrev pub Timed : ℕ → List ℕ → List (List Value × List Entry) → Type 0
Timed pulled times rows = (u : List Value) → list_all (is_timed pulled times) (list_for rows u) ≡ true

-- no kept start is behind the positions taken
abbrev pub StartsBelow : ℕ → List (List Value × ℕ) → Type 0
StartsBelow taken starts = (w : List Value) → IfSome (kept_for starts w) (λ s. s ≤ taken)

-- no kept start is at or below the next position to pull, of which it would tell nothing
abbrev pub StartsAbove : ℕ → List (List Value × ℕ) → Type 0
StartsAbove pulled starts = (w : List Value) → IfSome (kept_for starts w) (λ s. pulled < s)
