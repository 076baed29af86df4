-- The entries of a row: one more behind the others, and those without what was pulled.
use Rattle.std.proofs.Common.{◌≡◌, ℕ, ◌<◌, ◌≤◌, Bool, true, nat_lt, List, [], ◌∷◌, ◌++◌, drop, refl, arith}
use Rattle.std.proofs.{lemmas.Bool.and_parts, lemmas.Bool.Decides.nat_tests}
use Rattle.std.specs.List.{list_all}
use Rattle.mfotl_model.specs.declared.interval.Interval.{Interval}
use Rattle.relations.proofs.TestLemmas.{all_push}
use Rattle.until_rows.specs.declared.entries.Entry.{Entry}
use Rattle.until_rows.specs.{Entries.met_by, Entries.from_place, Rules.PlacesAscend, Rules.all_before}

pub from_none : (next : ℕ) → from_place next [] ≡ []
unfolding from_place
from_none next = refl

-- what stands before at the front is dropped
pub from_front : (next : ℕ) (e : Entry) (es : List Entry) → e.place < next
    → from_place next (e ∷ es) ≡ from_place next es
unfolding from_place
from_front next e es l = grind (arith, nat_tests)

later_stay : (next y : ℕ) (es : List Entry) → next ≤ y → list_all (λ f. nat_lt y f.place) es ≡ true
    → from_place next es ≡ es
unfolding from_place
later_stay next y [] l all = refl
later_stay next y (e ∷ es) l all = grind (arith, nat_tests, later_stay next y es l)

-- where the first stays, all do
pub from_here : (next : ℕ) (e : Entry) (es : List Entry) → next ≤ e.place → PlacesAscend (e ∷ es)
    → from_place next (e ∷ es) ≡ e ∷ es
unfolding from_place
from_here next e es l ascend = grind (arith, nat_tests, later_stay next e.place es l ascend.0)

pub from_twice : (next : ℕ) (es : List Entry) → from_place next (from_place next es) ≡ from_place next es
unfolding from_place
from_twice next [] = refl
from_twice next (e ∷ es) = grind (arith, nat_tests, from_twice next es)

-- what holds of each entry holds of those that are left
pub all_from_place : (p : Entry → Bool) (next : ℕ) (es : List Entry) → list_all p es ≡ true
    → list_all p (from_place next es) ≡ true
unfolding from_place
all_from_place p next [] all = refl
all_from_place p next (e ∷ es) all = grind (arith, nat_tests, all_from_place p next es)

pub ascend_from : (next : ℕ) (es : List Entry) → PlacesAscend es → PlacesAscend (from_place next es)
unfolding from_place
ascend_from next [] ascend = tt
ascend_from next (e ∷ es) ascend = grind (arith, all_from_place, ascend_from next es ascend.1)

pub ascend_rest : (es : List Entry) → PlacesAscend es → PlacesAscend (drop 1 es)
ascend_rest es ascend = grind arith

-- a later entry at the end
pub ascend_push : (es : List Entry) (e : Entry) → PlacesAscend es → all_before e.place es ≡ true
    → PlacesAscend (es ++ e ∷ [])
ascend_push [] e ascend all = (refl, tt)
ascend_push (f ∷ fs) e ascend all =
    let parts = and_parts (nat_lt f.place e.place) (all_before e.place fs) all in
    (all_push (λ g. nat_lt f.place g.place) fs e ascend.0 parts.0, ascend_push fs e ascend.1 parts.1)

-- what stands before a position meets nothing from there on
pub met_from : (interval : Interval) (i x next : ℕ) (es : List Entry) → next ≤ i
    → met_by interval i x (from_place next es) ≡ met_by interval i x es
unfolding from_place
met_from interval i x next [] l = refl
met_from interval i x next (e ∷ es) l = grind (arith, nat_tests, met_from interval i x next es l)
