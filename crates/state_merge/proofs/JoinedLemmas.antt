-- What two states keep for a row, together: it answers each test as the one that may be asked, or as both.
use Rattle.std.proofs.Common.{◌≡◌, ℕ, ◌-◌, ◌≤◌, Bool, true, false, ◌||◌, nat_le, List, length, Option, None, Some}
use Rattle.std.proofs.Common.{arith}
use Rattle.std.proofs.{lemmas.Bool.Decides.nat_tests, lemmas.Map.Lookups.exact_unsigned, Math.Bool.or-false}
use Rattle.std.proofs.{Math.Bool.or_self, lemmas.Grind.common_steps}
use Rattle.std.specs.{List.list_any, Ordering.nat_cmp, Prelude.min}
use Rattle.std.specs.declared.cmp.Ordering.TheVariants.{Equal}
use Rattle.mfotl_model.specs.declared.interval.Interval.{Interval}
use Rattle.row_times.specs.Times.{reaches}
use Rattle.until_rows.specs.declared.recalled.Mark.{Mark}
use Rattle.monitor_state.specs.JoinedRows.{either, least_time, marks_joined, times_joined, times_united}
use Rattle.monitor_state.specs.StateStands.{mark_meets}
use Rattle.state_merge.specs.Pairs.{lesser_mark}
use Rattle.state_merge.proofs.PutLemmas.{any_of_all, marks_are, one_time, place_of, time_of, times_are}

-- two tests that are right wherever they may be asked, and false elsewhere
pub pooled_test : (r q ta tb truth : Bool) → (r ≡ true → ta ≡ truth) → (r ≡ false → ta ≡ false) → (q ≡ true → tb
    ≡ truth) → (q ≡ false → tb ≡ false) → (r || q) ≡ true → (ta || tb) ≡ truth
pooled_test r q ta tb truth a lacks b none n = grind arith

-- the same of what is kept: where both keep something that answers rightly, so does what is made of both
pub pooled : {X : Type 0} (both : X → X → X) (test : Option X → Bool) (r q truth : Bool) (oa ob : Option X)
    → ((x y : X) → oa ≡ Some x → ob ≡ Some y → test (Some x) ≡ truth → test (Some y) ≡ truth
    → test (Some (both x y)) ≡ truth)
    → (r ≡ true → test oa ≡ truth) → (r ≡ false → oa ≡ None) → (q ≡ true → test ob ≡ truth) → (q ≡ false → ob ≡ None)
    → (r || q) ≡ true → test (either both oa ob) ≡ truth
pooled both test r q truth oa ob join a lacks b none n = grind arith

-- ---- times

any_times : (p : ℕ → Bool) (xs ys : List ℕ) → list_any p (times_united xs ys) ≡ (list_any p xs || list_any p ys)
any_times p xs ys = grind (arith, times_are, any_of_all, time_of, one_time, exact_unsigned, or_self)

-- without an upper end the lesser time serves
least_serves : (i : Interval) (z : ℕ) (xs ys : List ℕ) → i.hi ≡ None → length xs ≤ 1 → length ys ≤ 1
    → reaches i (least_time xs ys) z ≡ (reaches i xs z || reaches i ys z)
least_serves i z xs ys endless a b = grind (arith, common_steps, or-false)

-- the times of both reach what either does
pub times_right : (i : Interval) (z : ℕ) (xs ys : List ℕ) → (i.hi ≡ None → length xs ≤ 1) → (i.hi ≡ None
    → length ys ≤ 1) → reaches i (times_joined i.hi xs ys) z ≡ (reaches i xs z || reaches i ys z)
times_right i z xs ys a b = grind (arith, least_serves, any_times)

-- ---- starts

-- of two starts that answer rightly the lesser one does
pub starts_right : (x y j : ℕ) (truth : Bool) → nat_le x j ≡ truth → nat_le y j ≡ truth → nat_le (min x y) j ≡ truth
starts_right x y j truth a b = grind (arith, nat_tests)

-- ---- marks

module _ (i : Interval) (t : List ℕ) (p : ℕ) where
  same_place : (m n : Mark) → nat_cmp m.place n.place ≡ Equal
      → mark_meets i t p (lesser_mark m n) ≡ (mark_meets i t p m || mark_meets i t p n)
  same_place m n e = grind arith

  -- the marks of both meet what either does
  pub marks_right : (ms ns : List Mark) → list_any (mark_meets i t p) (marks_joined ms ns)
      ≡ (list_any (mark_meets i t p) ms || list_any (mark_meets i t p) ns)
  marks_right ms ns = simp (marks_are, any_of_all, place_of, same_place)
