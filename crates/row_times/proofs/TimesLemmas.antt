-- Ascending times: one more at the end, the old ones dropped, and what they reach.
use Rattle.std.proofs.Common.{◌≡◌, ℕ, zero, suc, ◌+◌, ◌-◌, ◌<◌, ◌≤◌, Bool, true, false, cond, List, [], ◌∷◌, ◌++◌}
use Rattle.std.proofs.Common.{length, slice_index, drop, get_or, refl, sym, ap, arith, add-one}
use native.Mathlib.Numerals.{unary_clauses}
use Rattle.std.proofs.{lemmas.Bool.Decides.nat_tests, lemmas.Grind.common_steps}
use Rattle.std.specs.List.Sorted.{IsStrictlyIncreasing}
use Rattle.mfotl_model.specs.Intervals.{in_interval}
use Rattle.mfotl_model.specs.declared.interval.Interval.{Interval}
use Rattle.row_times.specs.Times.{reaches, ArePast, is_new, added, recent}

pub increasing_tail : (y : ℕ) (ys : List ℕ) → IsStrictlyIncreasing (y ∷ ys) → IsStrictlyIncreasing ys
increasing_tail y ys h = λ k l. let s : suc k + 1 < length (y ∷ ys) = omega arith in rw add-one
    (rw add-one at (h (suc k) s))

increasing_cons : (y z : ℕ) (zs : List ℕ) → y < z → IsStrictlyIncreasing (z ∷ zs) → IsStrictlyIncreasing (y ∷ z ∷ zs)
increasing_cons y z zs low h zero l = low
increasing_cons y z zs low h (suc k) l = grind arith

pub increasing_drop : (ys : List ℕ) → IsStrictlyIncreasing ys → IsStrictlyIncreasing (drop 1 ys)
increasing_drop [] h = h
increasing_drop (y ∷ ys) h = increasing_tail y ys h

last_step : (y z : ℕ) (zs : List ℕ) (x : ℕ) → slice_index (y ∷ z ∷ zs) (length (y ∷ z ∷ zs) - 1) < x
    → slice_index (z ∷ zs) (length (z ∷ zs) - 1) < x
last_step y z zs x h = simp unary_clauses (simp unary_clauses at h)

-- a later time at the end
pub increasing_push : (ys : List ℕ) (x : ℕ) → IsStrictlyIncreasing ys
    → (0 < length ys → slice_index ys (length ys - 1) < x) → IsStrictlyIncreasing (ys ++ x ∷ [])
increasing_push ys x h last = grind (arith, common_steps, increasing_cons, zero, increasing_tail, last_step)

-- what is old at the front is dropped
pub recent_front : (hi x y : ℕ) (ys : List ℕ) → hi < x - y → recent hi x (y ∷ ys) ≡ recent hi x ys
unfolding recent
recent_front hi x y ys far = grind (arith, nat_tests)

-- where the first is recent, all are
pub recent_all : (hi x : ℕ) (ys : List ℕ) → IsStrictlyIncreasing ys → (0 < length ys → x - slice_index ys 0 ≤ hi)
    → recent hi x ys ≡ ys
unfolding recent
recent_all hi x [] h near = refl
recent_all hi x (y ∷ []) h near = grind (arith, nat_tests, near (omega arith))
recent_all hi x (y ∷ z ∷ zs) h near =
    let n : x - y ≤ hi = near (omega arith) in
    let l : y < z = h zero (omega arith) in
    grind (arith, nat_tests, recent_all hi x (z ∷ zs) (increasing_tail y (z ∷ zs) h) (λ _. omega arith))

too_near : (interval : Interval) (d : ℕ) → d < interval.lo → in_interval interval d ≡ false
too_near interval d l = grind (arith, nat_tests)

-- where the first is too near, none reaches
pub reaches_none : (interval : Interval) (x : ℕ) (ys : List ℕ) → IsStrictlyIncreasing ys
    → (0 < length ys → x - slice_index ys 0 < interval.lo) → reaches interval ys x ≡ false
reaches_none interval x [] h near = refl
reaches_none interval x (y ∷ []) h near = grind (arith, too_near interval (x - y) (near (omega arith)))
reaches_none interval x (y ∷ z ∷ zs) h near =
    let n : x - y < interval.lo = near (omega arith) in
    let l : y < z = h zero (omega arith) in
    let rest = reaches_none interval x (z ∷ zs) (increasing_tail y (z ∷ zs) h) (λ _. omega arith) in
    grind (arith, too_near interval (x - y) n, rest)

-- one more time, no earlier than those kept, keeps them ascending
pub increasing_added : (bounded : Bool) (ys : List ℕ) (x : ℕ) → IsStrictlyIncreasing ys → ArePast x ys
    → is_new bounded ys x ≡ true → IsStrictlyIncreasing (ys ++ x ∷ [])
increasing_added bounded ys x h past new = grind (arith, increasing_push, slice_index)

pub added_yes : (bounded : Bool) (ys : List ℕ) (x : ℕ) → is_new bounded ys x ≡ true → ys ++ x ∷ [] ≡ added bounded ys x
unfolding added
added_yes bounded ys x e = sym (ap (λ b. cond b (ys ++ x ∷ []) ys) e)

pub added_no : (bounded : Bool) (ys : List ℕ) (x : ℕ) → is_new bounded ys x ≡ false → ys ≡ added bounded ys x
unfolding added
added_no bounded ys x e = sym (ap (λ b. cond b (ys ++ x ∷ []) ys) e)

-- the list that is left without its first one
pub recent_pop : (hi x : ℕ) (ys : List ℕ) → hi < x - slice_index ys 0 → recent hi x (drop 1 ys) ≡ recent hi x ys
recent_pop hi x ys far = grind (arith, recent_front)

-- where the time at a place is too near, none from there on reaches
pub reaches_none_at : (interval : Interval) (x : ℕ) (ys : List ℕ) (i y : ℕ) → IsStrictlyIncreasing ys
    → i < length ys → y ≡ get_or ys i y → x - y < interval.lo → reaches interval (drop i ys) x ≡ false
reaches_none_at interval x [] i y h l e near = absurd (omega arith)
reaches_none_at interval x (z ∷ zs) zero y h l e near = reaches_none interval x (z ∷ zs) h (λ _. omega (arith, e))
reaches_none_at interval x (z ∷ zs) (suc i) y h l e near = reaches_none_at interval x zs i y
    (increasing_tail z zs h) (omega arith) e near
