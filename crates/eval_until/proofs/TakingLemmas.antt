-- How many positions were taken, and how many can be.
use Rattle.std.proofs.Common.{◌≡◌, ℕ, zero, suc, ◌+◌, ◌-◌, ◌<◌, ◌≤◌, true, not, List, [], ◌∷◌, length, drop, refl, ap}
use Rattle.std.proofs.Common.{ap₂, arith}
use Rattle.std.proofs.lemmas.List.{length-drop}
use Rattle.eval_until.specs.UntilView.{Takes, UntilOf, due, to_take, took_all}

drop_one : {X : Type 0} (k : ℕ) (xs : List X) → drop 1 (drop k xs) ≡ drop (k + 1) xs
drop_one zero xs = refl
drop_one (suc k) [] = let z : suc (k + 1) ≡ suc k + 1 = omega arith in ap (λ n. drop n []) z
drop_one (suc k) (x ∷ xs) = grind (arith, drop_one k xs)

-- where not all were taken, one more can be
pub one_left : (s : UntilOf) → not (took_all s) ≡ true → 0 < to_take s
one_left s more = grind arith

-- so many can be taken after k of them were
pub left_over : (k : ℕ) (s m : UntilOf) → Takes k s m → to_take m ≡ to_take s - k
left_over k s m takes = grind (arith, length-drop)

pub takes_more : (s m e : UntilOf) → Takes (m.ahead.taken - s.ahead.taken) s m → Takes 1 m e
    → Takes (e.ahead.taken - s.ahead.taken) s e
takes_more s m e first more = grind (arith, drop_one)

pub few_more : (s m e : UntilOf) → Takes (m.ahead.taken - s.ahead.taken) s m → Takes 1 m e
    → not (took_all m) ≡ true → m.ahead.taken - s.ahead.taken ≤ to_take s → e.ahead.taken - s.ahead.taken ≤ to_take s
few_more s m e first more rest few = omega (arith, left_over (m.ahead.taken - s.ahead.taken) s m first, one_left m rest)

-- whether the next position is due doesn't hang on what was taken
pub due_stays : (k : ℕ) (s m : UntilOf) → Takes k s m → k ≤ to_take s → due m ≡ due s
due_stays k s m takes few = grind (arith, length-drop, ap₂)

-- the time of the position to take is there
pub time_there : (s : UntilOf) → not (took_all s) ≡ true → s.ahead.pulled ≤ s.ahead.taken
    → s.ahead.taken - s.ahead.pulled < length s.times
time_there s more low = let o = one_left s more in omega (arith, o, low)
