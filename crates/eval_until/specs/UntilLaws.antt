-- The recursive laws of UNTIL.
use Rattle.std.specs.Prelude.{◌≡◌, ℕ, ◌+◌, ◌-◌, ◌<◌, ◌≤◌, Bool, false, cond, ◌&&◌, ◌||◌, nat_le, List, length, Some}
use Rattle.std.specs.List.{list_all, range_with_len}
use Rattle.mfotl_model.specs.Intervals.{in_interval}
use Rattle.mfotl_model.specs.Satisfaction.{time_at, truth_at, until}
use Rattle.mfotl_model.specs.declared.interval.Interval.{Interval}
use Rattle.eval_until.specs.UntilBefore.{until_before, start}

-- UNTIL is what all positions decide
abbrev pub UntilIs : Type 0
UntilIs = (interval : Interval) (t : List ℕ) (a b : List Bool) (i : ℕ)
    → until interval t a b i ≡ until_before interval t a b (length t) i

-- the positions before the one asked decide nothing
abbrev pub NoneYet : Type 0
NoneYet = (interval : Interval) (t : List ℕ) (a b : List Bool) (p i : ℕ) → p ≤ i
    → until_before interval t a b p i ≡ false

-- one position more: b holds there, and a has held from i on
abbrev pub OneMore : Type 0
OneMore = (interval : Interval) (t : List ℕ) (a b : List Bool) (p i : ℕ) → i ≤ p
    → until_before interval t a b (p + 1) i
    ≡ (until_before interval t a b p i
    || (in_interval interval (time_at t p - time_at t i) && truth_at b p && nat_le (start a p) i))

-- the run goes on, or begins anew behind p
abbrev pub StartMore : Type 0
StartMore = (a : List Bool) (p : ℕ) → start a (p + 1) ≡ cond (truth_at a p) (start a p) (p + 1)

-- the run tells from where on a has held
abbrev pub StartIs : Type 0
StartIs = (a : List Bool) (p i : ℕ) → i ≤ p
    → nat_le (start a p) i ≡ list_all (truth_at a) (range_with_len i (p - i))

-- no run begins behind the positions seen
abbrev pub StartLow : Type 0
StartLow = (a : List Bool) (p : ℕ) → start a p ≤ p

-- a run that breaks begins later
abbrev pub StartRises : Type 0
StartRises = (a : List Bool) (p n : ℕ) → start a p ≤ start a (p + n)

-- positions past the greatest distance decide nothing
abbrev pub PastTheBound : Type 0
PastTheBound = (interval : Interval) (hi : ℕ) (t : List ℕ) (a b : List Bool) (i p n : ℕ)
    → interval.hi ≡ Some hi → i ≤ p
    → ((j : ℕ) → p ≤ j → j < p + n → time_at t i + hi < time_at t j)
    → until_before interval t a b (p + n) i ≡ until_before interval t a b p i
