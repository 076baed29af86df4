-- The times of a row after one more, and after the same change twice.
use Rattle.std.proofs.Common.{◌≡◌, ℕ, ◌-◌, Bool, false, nat_le, List, [], ◌∷◌, ◌++◌, length, slice_index, refl, arith}
use Rattle.std.proofs.{lemmas.Bool.cases_lt, lemmas.Bool.Decides.nat_tests}
use Rattle.std.proofs.lemmas.List.{get_or_append_left, get_or_push, length_push}
use Rattle.std.specs.List.{filter}
use Rattle.relations.proofs.MapLemmas.{either}
use Rattle.row_times.specs.Times.{ArePast, is_new, added, recent}

past_push : (ys : List ℕ) (x : ℕ) → ArePast x ys → ArePast x (ys ++ x ∷ [])
past_push ys x past = grind (arith, cases_lt, slice_index, get_or_append_left, length_push, get_or_push)

pub past_added : (bounded : Bool) (ys : List ℕ) (x : ℕ) → ArePast x ys → ArePast x (added bounded ys x)
unfolding added
past_added bounded ys x past = grind (arith, either, past_push)

last_is : (ys : List ℕ) (x : ℕ) → slice_index (ys ++ x ∷ []) (length (ys ++ x ∷ []) - 1) ≡ x
last_is ys x = grind (arith, length_push, get_or_push)

not_new : (bounded : Bool) (ys : List ℕ) (x : ℕ) → is_new bounded (ys ++ x ∷ []) x ≡ false
not_new bounded ys x = grind (arith, nat_tests, last_is ys x, length_push ys x)

-- the same time once more changes nothing
pub added_twice : (bounded : Bool) (x : ℕ) (ys : List ℕ) → added bounded (added bounded ys x) x ≡ added bounded ys x
unfolding added
added_twice bounded x ys = grind (arith, not_new bounded ys x)

filter_twice : (p : ℕ → Bool) (ys : List ℕ) → filter p (filter p ys) ≡ filter p ys
filter_twice p [] = refl
filter_twice p (y ∷ ys) = grind (arith, filter_twice p ys)

pub recent_twice : (hi x : ℕ) (ys : List ℕ) → recent hi x (recent hi x ys) ≡ recent hi x ys
unfolding recent
recent_twice hi x ys = filter_twice (λ y. nat_le (x - y) hi) ys
