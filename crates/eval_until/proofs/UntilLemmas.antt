-- The recursive laws of UNTIL.
use Rattle.std.proofs.Common.{◌≡◌, ℕ, zero, suc, ◌+◌, ◌-◌, ◌<◌, ◌≤◌, Bool, true, false, cond, ◌&&◌, ◌||◌, nat_le, List}
use Rattle.std.proofs.Common.{refl, sym, ap, ◌∙◌, arith, inl, inr, add-one}
use Rattle.std.proofs.{lemmas.Bool.cases_lt, lemmas.Bool.Decides.nat_tests, lemmas.List.Folds.list_any-append}
use Rattle.std.proofs.{lemmas.List.Folds.list_all-append}
use Rattle.std.proofs.Math.Bool.{and-true, and-false, or-false}
use Rattle.std.specs.List.{list_all, range_with_len}
use Rattle.mfotl_model.specs.Satisfaction.{time_at, truth_at, until}
use Rattle.mfotl_model.proofs.{LogicLemmas.range_suc, TimeLemmas.too_far}
use Rattle.eval_until.specs.UntilBefore.{until_before, start}
use Rattle.eval_until.specs.UntilLaws.{UntilIs, NoneYet, OneMore, StartMore, StartIs, StartLow, StartRises}
use Rattle.eval_until.specs.UntilLaws.{PastTheBound}

pub until_is : UntilIs
unfolding until until_before
until_is interval t a b i = refl

pub none_yet : NoneYet
unfolding until_before
none_yet interval t a b p i l = grind arith

pub start_more : StartMore
unfolding start
start_more a p = rw add-one refl

pub start_low : StartLow
unfolding start
start_low a zero = omega arith
start_low a (suc p) = grind (arith, start_low a p)

rises_once : (a : List Bool) (p : ℕ) → start a p ≤ start a (suc p)
unfolding start
rises_once a p = grind (arith, start_low)

pub start_rises : StartRises
start_rises a p zero = let e : p + 0 ≡ p = omega arith in omega (arith, ap (start a) e)
start_rises a p (suc n) = grind (arith, rises_once, start_rises a p n)

pub start_is : StartIs
unfolding start
start_is a zero i low = grind arith
start_is a (suc p) i low = elim (cases_lt p i) [
  | inl last ↦ grind (arith, start_low)
  | inr before ↦
      let e : suc p - i ≡ p - i + 1 = omega arith in
      let last : i + (p - i) ≡ p = omega arith in
      grind (arith, range_suc, list_all-append, and-true, start_is a p i before)
]
  where
    at_end : (b : Bool) → start a p ≤ p → p < i → cond b (start a p) (suc p) ≤ i
    at_end true l m = omega arith
    at_end false l m = omega arith

    by : (b : Bool) → i ≤ p → nat_le (start a p) i ≡ list_all (truth_at a) (range_with_len i (p - i))
        → nat_le (cond b (start a p) (suc p)) i ≡ (list_all (truth_at a) (range_with_len i (p - i)) && b)
    by true l e = e ∙ sym (and-true (list_all (truth_at a) (range_with_len i (p - i))))
    by false l e = let f : nat_le (suc p) i ≡ false = grind (arith, nat_tests) in f
        ∙ sym (and-false (list_all (truth_at a) (range_with_len i (p - i))))

pub one_more : OneMore
unfolding until_before
one_more interval t a b p i low = grind (arith, range_suc, list_any-append, or-false, start_is)

pub past_the_bound : PastTheBound
past_the_bound interval hi t a b i p zero e low far = grind arith
past_the_bound interval hi t a b i p (suc n) e low far =
    let z : p + suc n ≡ p + n + 1 = omega arith in
    let f : time_at t i + hi < time_at t (p + n) = far (p + n) (omega arith) (omega arith) in
    ap (λ q. until_before interval t a b q i) z
    ∙ one_more interval t a b (p + n) i (omega arith)
    ∙ ap (λ c. until_before interval t a b (p + n) i || (c && truth_at b (p + n) && nat_le (start a (p + n)) i))
    (too_far interval hi (time_at t (p + n) - time_at t i) e (omega arith))
    ∙ or-false (until_before interval t a b (p + n) i)
    ∙ past_the_bound interval hi t a b i p n e low (λ j l m. far j l (omega arith))

pub ruleset position_by_position = (
  until_is,
  none_yet,
  one_more,
  start_more,
  start_is,
  start_low,
  start_rises,
  past_the_bound,
)
