-- The recursive law of SINCE.
use Rattle.std.proofs.Common.{◌≡◌, ℕ, ◌+◌, ◌-◌, ◌<◌, Bool, true, false, ◌&&◌, ◌||◌, List, [], ◌∷◌, refl, sym, ap, ap₂}
use Rattle.std.proofs.Common.{◌∙◌, arith}
use Rattle.std.proofs.lemmas.List.Folds.{list_any-append, list_all-append}
use Rattle.std.proofs.Math.Bool.{and-true, or-false, and_assoc}
use Rattle.std.specs.List.{list_any, list_all, range_with_len}
use Rattle.mfotl_model.specs.Intervals.{in_interval}
use Rattle.mfotl_model.specs.Satisfaction.{time_at, truth_at, since}
use Rattle.mfotl_model.proofs.LogicLemmas.{any_same, all_same, range_suc}
use Rattle.mfotl_model.proofs.RowLemmas.{any_and_last}
use Rattle.eval_since.specs.SinceBefore.{since_before}
use Rattle.eval_since.specs.SinceLaws.{BeginsFalse, SinceRecurrence, SinceIs, DecidedBelow}

pub begins_false : BeginsFalse
unfolding since_before
begins_false interval times a b x = refl

-- the later positions below p + 1
all_more : (a : List Bool) (j p : ℕ) → j < p → list_all (truth_at a) (range_with_len (j + 1) (p + 1 - (j + 1)))
    ≡ (list_all (truth_at a) (range_with_len (j + 1) (p - (j + 1))) && truth_at a p)
all_more a j p low = grind (arith, list_all-append, range_suc)

all_none : (a : List Bool) (p : ℕ) → list_all (truth_at a) (range_with_len (p + 1) (p + 1 - (p + 1))) ≡ true
all_none a p = grind arith

pub goes_on : SinceRecurrence
unfolding since_before
goes_on interval times a b p x =
    let at : ℕ → Bool = λ j. in_interval interval (x - time_at times j) && truth_at b j in
    let old : ℕ → Bool = λ j. at j && list_all (truth_at a) (range_with_len (j + 1) (p - (j + 1))) in
    let new : ℕ → Bool = λ j. at j && list_all (truth_at a) (range_with_len (j + 1) (p + 1 - (j + 1))) in
    let last : 0 + p ≡ p = omega arith in
    ap (list_any new) (range_suc 0 p)
    ∙ list_any-append new (range_with_len 0 p) ((0 + p) ∷ [])
    ∙ ap₂ (λ c d. c || d)
    (any_same new (λ j. old j && truth_at a p) 0 p
    (λ j low high. ap (λ r. at j && r) (all_more a j p (omega arith))
    ∙ sym (and_assoc (at j) (list_all (truth_at a) (range_with_len (j + 1) (p - (j + 1)))) (truth_at a p)))
    ∙ any_and_last (truth_at a p) old (range_with_len 0 p))
    (ap (λ k. new k || false) last ∙ or-false (new p) ∙ ap (λ r. at p && r) (all_none a p) ∙ and-true (at p))

pub since_is : SinceIs
unfolding since since_before
since_is interval times a b i = grind arith

pub decided_below : DecidedBelow
unfolding since_before
decided_below interval t u a b c d p x times left right = grind (arith, any_same, ap₂, all_same)

pub ruleset position_by_position = (begins_false, goes_on, since_is, decided_below)
