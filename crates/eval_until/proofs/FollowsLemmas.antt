-- The state of UNTIL: what a push, a position that is taken, and one that is pulled keep, and what it answers.
use Rattle.std.proofs.Common.{◌≡◌, ℕ, zero, ◌+◌, ◌-◌, ◌<◌, ◌≤◌, Bool, true, false, cond, ◌&&◌, ◌||◌, nat_le, min, List}
use Rattle.std.proofs.Common.{[], ◌∷◌, ◌++◌, Option, Some, None, length, map, get_or, slice_index, refl, sym, ap, ap₂}
use Rattle.std.proofs.Common.{◌∙◌, arith}
use borrow.Author.Tests.{ltb-true}
use Rattle.std.proofs.{lemmas.Bool.cases_lt, lemmas.Bool.eqb-true, lemmas.List.length_push, lemmas.Grind.common_steps}
use Rattle.mfotl_model.specs.{Intervals.in_interval, Times.NeverFalls}
use Rattle.mfotl_model.specs.Satisfaction.{Valuation, time_at, truth_at, until}
use Rattle.mfotl_model.specs.Tables.{TableOf, all_among, has, has_row, part}
use Rattle.mfotl_model.specs.declared.{interval.Interval.Interval, value.Value.Value}
use Rattle.relations.proofs.{OperationLaws.has_as, OperationLaws.part_of_own, PushedLemmas.stand_push}
use Rattle.relations.specs.Pushed.{StandFrom, left_holds, turned}
use Rattle.eval_until.specs.AheadView.{AheadOf, met, run_start}
use Rattle.eval_until.specs.UntilBefore.{until_before, start}
use Rattle.eval_until.specs.UntilView.{Follows, FollowsLeft, UntilOf, due, past_bound, to_take, took_all}
use Rattle.eval_until.proofs.DueLemmas.{nonempty, stands_at}
use Rattle.eval_until.proofs.UntilLemmas.{none_yet, one_more, past_the_bound, start_more, until_is}

-- before the first position
pub left_begins : (k : AheadOf) (a : List Bool) (v : Valuation) → k.taken ≡ 0 → k.starts ≡ []
    → FollowsLeft (record { ahead = k; times = []; lefts = []; rights = [] }) a v
unfolding start
left_begins k a v taken starts = grind arith

pub begins : (k : AheadOf) (t : List ℕ) (a b : List Bool) (v : Valuation) → k.pulled ≡ 0 → k.taken ≡ 0
    → k.starts ≡ [] → k.rows ≡ []
    → Follows (record { ahead = k; times = []; lefts = []; rights = [] }) t a b v
begins k t a b v pulled taken starts rows = grind (arith, left_begins k a v taken starts, none_yet)

-- one position more, whether the position asked lies below it or not
more_anywhere : (interval : Interval) (t : List ℕ) (a b : List Bool) (p i : ℕ) → (until_before interval t a b p i
    || (truth_at b p && (nat_le (start a p) i && nat_le i p && in_interval interval (time_at t p - time_at t i))))
    ≡ until_before interval t a b (p + 1) i
more_anywhere interval t a b p i = grind (arith, cases_lt, none_yet, one_more)

-- one position is taken
pub record Taken (k n : AheadOf) (ts : ℕ) (l r : TableOf) : Type 0 where
  pub interval : n.interval ≡ k.interval
  pub left : n.left ≡ k.left
  pub right : n.right ≡ k.right
  pub negated : n.negated ≡ k.negated
  pub pulled : n.pulled ≡ k.pulled
  pub taken : n.taken ≡ k.taken + 1
  pub inside : all_among k.left k.right ≡ true
  pub lefts : l.columns ≡ k.left
  pub rights : r.columns ≡ k.right
  pub met : (i x : ℕ) (u : List Value) → met n i x u ≡ (met k i x u || (has_row r.rows u
      && (nat_le (run_start k (part k.right k.left u)) i && nat_le i k.taken && in_interval k.interval (ts - x))))
  pub start : (w : List Value) → run_start n w
      ≡ cond (turned k.negated (has_row l.rows w)) (run_start k w) (k.taken + 1)

module _ {k n : AheadOf} {ts : ℕ} {times : List ℕ} {l r : TableOf} {ls rs : List TableOf} (j : Taken k n ts l r) where
  pub left_taken : (a : List Bool) (v : Valuation)
      → FollowsLeft (record { ahead = k; times = times; lefts = l ∷ ls; rights = r ∷ rs }) a v
      → FollowsLeft (record { ahead = n; times = times; lefts = ls; rights = rs }) a v
  left_taken a v f = record {
    lefts = rw (j.taken, j.negated) f.lefts.1;
    runs = grind (arith, has_as, start_more);
  }
    where
      by : (i : ℕ) (b : Bool) → nat_le (run_start k (map v k.left)) i ≡ nat_le (start a k.taken) i
          → nat_le (cond b (run_start k (map v k.left)) (k.taken + 1)) i
          ≡ nat_le (cond b (start a k.taken) (k.taken + 1)) i
      by i true e = e
      by i false e = refl

  pub follows_taken : (t : List ℕ) (a b : List Bool) (v : Valuation) → ts ≡ time_at t k.taken
      → Follows (record { ahead = k; times = times; lefts = l ∷ ls; rights = r ∷ rs }) t a b v
      → Follows (record { ahead = n; times = times; lefts = ls; rights = rs }) t a b v
  follows_taken t a b v time f = record {
    left = left_taken a v f.left;
    long = omega (arith, f.long, j.pulled);
    times = rw j.pulled f.times;
    rights = rw j.taken f.rights.1;
    window = λ i low.
        let m : k.pulled ≤ i = omega (arith, low, j.pulled) in
        ap (λ c. met n i (time_at t i) (map v c)) j.right
        ∙ j.met i (time_at t i) (map v k.right)
        ∙ ap₂ (λ c d. c || d) (f.window i m)
        (ap₂ (λ c d. c && d) (sym (has_as r k.right r.rows v j.rights refl) ∙ f.rights.0)
        (ap₂ (λ s x. s && nat_le i k.taken && in_interval k.interval (x - time_at t i))
        (ap (λ w. nat_le (run_start k w) i) (part_of_own v k.right k.left j.inside) ∙ f.left.runs i m) time))
        ∙ more_anywhere k.interval t a b k.taken i
        ∙ ap₂ (λ (v : Interval) (p : ℕ). until_before v t a b p i) (sym j.interval) (sym j.taken);
  }

-- one position is pulled
pub record Pulled (k n : AheadOf) : Type 0 where
  pub interval : n.interval ≡ k.interval
  pub left : n.left ≡ k.left
  pub right : n.right ≡ k.right
  pub negated : n.negated ≡ k.negated
  pub pulled : n.pulled ≡ k.pulled + 1
  pub taken : n.taken ≡ k.taken
  pub met : (i y : ℕ) (u : List Value) → k.pulled + 1 ≤ i → met n i y u ≡ met k i y u
  pub start : (i : ℕ) (w : List Value) → k.pulled + 1 ≤ i → nat_le (run_start n w) i ≡ nat_le (run_start k w) i

module _ {k n : AheadOf} {x : ℕ} {times : List ℕ} {ls rs : List TableOf} (j : Pulled k n) where
  pub left_pulled : (a : List Bool) (v : Valuation)
      → FollowsLeft (record { ahead = k; times = x ∷ times; lefts = ls; rights = rs }) a v
      → FollowsLeft (record { ahead = n; times = times; lefts = ls; rights = rs }) a v
  left_pulled a v f = record {
    lefts = rw (j.taken, j.negated) f.lefts;
    runs = grind arith;
  }

  pub follows_pulled : (t : List ℕ) (a b : List Bool) (v : Valuation)
      → Follows (record { ahead = k; times = x ∷ times; lefts = ls; rights = rs }) t a b v
      → Follows (record { ahead = n; times = times; lefts = ls; rights = rs }) t a b v
  follows_pulled t a b v f = record {
    left = left_pulled a v f.left;
    long = omega (arith, f.long, j.pulled);
    times = rw j.pulled f.times.1;
    rights = rw j.taken f.rights;
    window = grind (arith, ap₂);
  }

-- where the bound is passed, what was taken decides
decided : (interval : Interval) (hi : ℕ) (t : List ℕ) (a b : List Bool) (next taken : ℕ) (times : List ℕ)
    → interval.hi ≡ Some hi → NeverFalls t → next ≤ taken → taken ≤ next + length times → next + length times ≤ length t
    → StandFrom (λ i x. x ≡ time_at t i) next times → 0 < length times
    → hi < slice_index times (min (taken - next) (length times - 1)) - slice_index times 0
    → until_before interval t a b taken next ≡ until interval t a b next
decided interval hi t a b next taken times e never low high long stands some past =
    let first = stands_at t next times 0 stands some in
    let at = stands_at t next times (min (taken - next) (length times - 1)) stands (omega arith) in
    let z : next + 0 ≡ next = omega arith in
    let x : time_at t next + hi < time_at t (next + min (taken - next) (length times - 1)) = grind arith in
    let n : taken + (length t - taken) ≡ length t = omega arith in
    grind (arith, past_the_bound, until_is)

-- where all were taken, the place that the due position asks is the last one taken, or past the times
same_place : (pulled taken l r m : ℕ) → pulled ≤ taken → taken ≤ pulled + m → min (min l r) (pulled + m - taken) ≡ 0
    → min (taken + min l r - pulled) (m - 1) ≡ min (taken - pulled) (m - 1)
same_place pulled taken l r m low high none = omega arith

-- what the next table has, where it is due
pub met_next : {s : UntilOf} {x : ℕ} {rest : List ℕ} (t : List ℕ) (a b : List Bool) (v : Valuation)
    → Follows s t a b v → NeverFalls t → due s ≡ true → took_all s ≡ true
    → s.times ≡ x ∷ rest → s.ahead.pulled ≤ s.ahead.taken → s.ahead.taken ≤ s.ahead.pulled + length s.times
    → met s.ahead s.ahead.pulled x (map v s.ahead.right) ≡ until s.ahead.interval t a b s.ahead.pulled
met_next {s} {x} t a b v f never is all times low high = by s.ahead.interval.hi refl is
  where
    none : to_take s ≡ 0
    none = eqb-true (to_take s) 0 all

    by : (o : Option ℕ) → s.ahead.interval.hi ≡ o
        → past_bound o (s.ahead.taken + min (length s.lefts) (length s.rights) - s.ahead.pulled) s.times ≡ true
        → met s.ahead s.ahead.pulled x (map v s.ahead.right) ≡ until s.ahead.interval t a b s.ahead.pulled
    by None e h = cc
    by (Some hi) e h =
        let same = same_place s.ahead.pulled s.ahead.taken (length s.lefts) (length s.rights)
        (length s.times) low high
        none in
        let past : hi < slice_index s.times (min (s.ahead.taken - s.ahead.pulled) (length s.times - 1))
        - slice_index s.times 0 = grind (arith, slice_index, ltb-true) in
        let some = nonempty s.times (min (s.ahead.taken - s.ahead.pulled) (length s.times - 1)) hi past in
        let z : s.ahead.pulled + 0 ≡ s.ahead.pulled = omega arith in
        let first : x ≡ time_at t s.ahead.pulled = grind (arith, slice_index, stands_at) in
        ap (λ y. met s.ahead s.ahead.pulled y (map v s.ahead.right)) first
        ∙ f.window s.ahead.pulled (omega arith)
        ∙ decided s.ahead.interval hi t a b s.ahead.pulled s.ahead.taken s.times e never low high f.long f.times some
        past

pub read_at : (xs : List ℕ) (k x : ℕ) → k < length xs → x ≡ get_or xs k x → x ≡ slice_index xs k
read_at xs k x l e = grind (arith, common_steps, zero)

-- the time that is read at the place of the position to take
pub time_taken : (t : List ℕ) (next taken : ℕ) (times : List ℕ) (x k : ℕ)
    → StandFrom (λ i y. y ≡ time_at t i) next times → k < length times → x ≡ get_or times k x → k ≡ taken - next
    → next ≤ taken → x ≡ time_at t taken
time_taken t next taken times x k stands l e is low =
    grind (arith, read_at times k x l e, stands_at t next times k stands l)

pub left_pushed : (k : AheadOf) (ts : List ℕ) (ls rs : List TableOf) (l : TableOf) (a : List Bool) (v : Valuation)
    → FollowsLeft (record { ahead = k; times = ts; lefts = ls; rights = rs }) a v
    → left_holds k.negated l v ≡ truth_at a (k.taken + length ls)
    → FollowsLeft (record { ahead = k; times = ts; lefts = ls ++ l ∷ []; rights = rs }) a v
left_pushed k ts ls rs l a v f e = search (stand_push)

-- nothing of the left side hangs on the rest
pub left_stays : (k : AheadOf) (ts us : List ℕ) (ls rs qs : List TableOf) (a : List Bool) (v : Valuation)
    → FollowsLeft (record { ahead = k; times = ts; lefts = ls; rights = rs }) a v
    → FollowsLeft (record { ahead = k; times = us; lefts = ls; rights = qs }) a v
left_stays k ts us ls rs qs a v f = record { lefts = f.lefts; runs = f.runs }

pub follows_left : (k : AheadOf) (ts : List ℕ) (ls rs : List TableOf) (l : TableOf) (t : List ℕ) (a b : List Bool)
    (v : Valuation)
    → Follows (record { ahead = k; times = ts; lefts = ls; rights = rs }) t a b v
    → left_holds k.negated l v ≡ truth_at a (k.taken + length ls)
    → Follows (record { ahead = k; times = ts; lefts = ls ++ l ∷ []; rights = rs }) t a b v
follows_left k ts ls rs l t a b v f e = search (left_pushed)

pub follows_right : (k : AheadOf) (ts : List ℕ) (ls rs : List TableOf) (r : TableOf) (t : List ℕ) (a b : List Bool)
    (v : Valuation)
    → Follows (record { ahead = k; times = ts; lefts = ls; rights = rs }) t a b v
    → has r v ≡ truth_at b (k.taken + length rs)
    → Follows (record { ahead = k; times = ts; lefts = ls; rights = rs ++ r ∷ [] }) t a b v
follows_right k ts ls rs r t a b v f e = search (left_stays, stand_push)

pub follows_time : (k : AheadOf) (ts : List ℕ) (x : ℕ) (ls rs : List TableOf) (t : List ℕ) (a b : List Bool)
    (v : Valuation)
    → Follows (record { ahead = k; times = ts; lefts = ls; rights = rs }) t a b v
    → x ≡ time_at t (k.pulled + length ts) → k.pulled + length ts < length t
    → Follows (record { ahead = k; times = ts ++ x ∷ []; lefts = ls; rights = rs }) t a b v
follows_time k ts x ls rs t a b v f e l = grind (arith, left_stays, length_push, stand_push)
