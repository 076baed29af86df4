-- Entries of which those before a position may have been forgotten.
use Rattle.std.proofs.Common.{◌≡◌, ℕ, ◌≤◌, Bool, true, cond, List, [], arith}
use Rattle.std.specs.List.{list_all}
use Rattle.mfotl_model.specs.declared.interval.Interval.{Interval}
use Rattle.until_rows.specs.declared.entries.Entry.{Entry}
use Rattle.until_rows.specs.{Entries.from_place, Entries.met_by, Rules.PlacesAscend}
use Rattle.until_rows.proofs.EntriesLemmas.{all_from_place, ascend_from, from_none, from_twice, met_from}
use Rattle.eval_until.specs.Keeping.{IsThinned}

-- of a list that may have been thinned
pub met_thinned : (interval : Interval) (i x next : ℕ) (old new : List Entry) → next ≤ i → IsThinned next old new
    → met_by interval i x new ≡ met_by interval i x old
met_thinned interval i x next old new l h = grind (arith, met_from)

pub ascend_thinned : (next : ℕ) (old new : List Entry) → IsThinned next old new → PlacesAscend old → PlacesAscend new
ascend_thinned next old new h ascend = grind (arith, ascend_from)

pub all_thinned : (p : Entry → Bool) (next : ℕ) (old new : List Entry) → IsThinned next old new
    → list_all p old ≡ true → list_all p new ≡ true
all_thinned p next old new h all = grind (arith, all_from_place)

pub none_thinned : (next : ℕ) (old new : List Entry) → IsThinned next old new → old ≡ [] → new ≡ []
none_thinned next old new h none = grind (arith, from_none)

-- one row more of a table whose entries are forgotten
pub thin_more : (next : ℕ) (old cur new : List Entry) (b : Bool) → IsThinned next old cur
    → new ≡ cond b (from_place next cur) cur → IsThinned next old new
thin_more next old cur new b thin e = grind (arith, from_twice next old)
