-- The marks of an UNTIL's data are the entries of its state, and timestamps by their places.
use Rattle.std.proofs.Common.{◌≡◌, ℕ, ◌-◌, ◌<◌, ◌≤◌, true, ◌&&◌, nat_le, nat_lt, List, [], ◌∷◌, map, drop, refl, ap₂}
use Rattle.std.proofs.Common.{arith, slice_index}
use Rattle.std.proofs.lemmas.Bool.{and_parts, leb-true, ltb-true}
use Rattle.std.proofs.lemmas.List.{drop-drop, get_or-drop}
use Rattle.std.specs.List.{list_all, list_any}
use Rattle.mfotl_model.specs.Satisfaction.{time_at}
use Rattle.mfotl_model.specs.declared.{interval.Interval.Interval, value.Value.Value}
use Rattle.until_rows.specs.{Entries.meets, Entries.met_by, Recalled.entries_kept, Recalled.entry_at}
use Rattle.eval_until.specs.Rules.{Waiting}
use Rattle.until_rows.specs.declared.{entries.Entry.Entry, recalled.KeptMarks.KeptMarks, recalled.Mark.Mark}
use Rattle.relations.specs.KeptRows.{list_for}
use Rattle.monitor_state.specs.StateStands.{mark_meets, marks_for}

-- the entries of a row are those of its marks
pub entries_are : (p : ℕ) (next : List ℕ) (u : List Value) (rows : List KeptMarks)
    → list_for (entries_kept p next rows) u ≡ map (entry_at p next) (marks_for rows u)
entries_are p next u [] = refl
entries_are p next u (k ∷ ks) = grind (arith, entries_are p next u ks)

-- a mark meets UNTIL as its entry does, where the timestamps are known at its place
meets_alike : (i : Interval) (j p taken : ℕ) (t next : List ℕ)
    → ((q : ℕ) → p ≤ q → q < taken → slice_index next (q - p) ≡ time_at t q) → (ms : List Mark)
    → list_all (λ (e : Entry). nat_le p e.place && nat_lt e.place taken && nat_le e.start e.place)
    (map (entry_at p next) ms) ≡ true
    → list_any (meets i j (time_at t j)) (map (entry_at p next) ms) ≡ list_any (mark_meets i t j) ms
meets_alike i j p taken t next known [] all = refl
meets_alike i j p taken t next known (m ∷ ms) all =
    let here = and_parts (nat_le p m.place && nat_lt m.place taken && nat_le m.start m.place)
    (list_all (λ (e : Entry). nat_le p e.place && nat_lt e.place taken && nat_le e.start e.place)
    (map (entry_at p next) ms)) all in
    let outer = and_parts (nat_le p m.place && nat_lt m.place taken) (nat_le m.start m.place) here.0 in
    let inner = and_parts (nat_le p m.place) (nat_lt m.place taken) outer.0 in
    grind (arith, ap₂, leb-true, ltb-true, meets_alike i j p taken t next known ms here.1)

pub met_is : (i : Interval) (j p taken : ℕ) (t next : List ℕ) (rows : List KeptMarks) (u : List Value)
    → ((q : ℕ) → p ≤ q → q < taken → slice_index next (q - p) ≡ time_at t q)
    → Waiting p taken (entries_kept p next rows)
    → met_by i j (time_at t j) (list_for (entries_kept p next rows) u) ≡ list_any (mark_meets i t j) (marks_for rows u)
met_is i j p taken t next rows u known waiting = grind (arith, entries_are, meets_alike)

-- what lies behind a place of what lies behind another one
pub dropped_behind : (first p : ℕ) (all kept : List ℕ) → kept ≡ drop first all → first ≤ p
    → drop (p - first) kept ≡ drop p all
dropped_behind first p all kept is low = grind (arith, drop-drop)

-- a timestamp is found at its place behind another one
pub found_behind : (first p : ℕ) (all kept : List ℕ) → kept ≡ drop first all → first ≤ p
    → slice_index kept (p - first) ≡ time_at all p
found_behind first p all kept is low = grind (arith, slice_index, get_or-drop)
