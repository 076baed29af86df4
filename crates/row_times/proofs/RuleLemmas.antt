-- The times of a row ascend, and without an upper end there is one at most.
use Rattle.std.proofs.Common.{◌≡◌, ℕ, ◌-◌, ◌≤◌, Bool, false, List, [], ◌∷◌, length, sym, subst, arith, inl, inr}
use Rattle.std.proofs.{lemmas.Bool.cases_lt, lemmas.Bool.Decides.nat_tests, lemmas.List.length_push}
use Rattle.std.specs.List.Sorted.{IsStrictlyIncreasing}
use Rattle.row_times.specs.Times.{ArePast, added, recent}
use Rattle.row_times.proofs.TimesLemmas.{increasing_added, increasing_tail, recent_all, recent_front}

pub increasing_none : IsStrictlyIncreasing []
increasing_none = λ k l. absurd (omega arith)

-- without the old ones
pub increasing_recent : (hi x : ℕ) (ys : List ℕ) → IsStrictlyIncreasing ys → IsStrictlyIncreasing (recent hi x ys)
unfolding recent
increasing_recent hi x [] h = h
increasing_recent hi x (y ∷ ys) h = elim (cases_lt hi (x - y)) [
  | inl far ↦ grind (arith, recent_front, increasing_tail, increasing_recent hi x ys (increasing_tail y ys h))
  | inr near ↦ subst IsStrictlyIncreasing (sym (recent_all hi x (y ∷ ys) h (λ _. near))) h
]

-- with one more
pub increasing_more : (bounded : Bool) (ys : List ℕ) (x : ℕ) → IsStrictlyIncreasing ys → ArePast x ys
    → IsStrictlyIncreasing (added bounded ys x)
unfolding added
increasing_more bounded ys x h past = grind (arith, increasing_added bounded ys x h past)

-- without an upper end a second one is not kept
pub one_more : (bounded : Bool) (ys : List ℕ) (x : ℕ) → bounded ≡ false → length ys ≤ 1
    → length (added bounded ys x) ≤ 1
unfolding added
one_more bounded ys x unbounded one = grind (arith, nat_tests, length_push ys x)
