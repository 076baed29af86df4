-- What a step of the window does to what is within it.
use Rattle.std.proofs.Common.{◌≡◌, ℕ, ◌-◌, ◌≤◌, Bool, true, false, cond, ◌&&◌, ◌||◌, List, [], ◌∷◌, Some, None, refl}
use Rattle.std.proofs.Common.{arith}
use Rattle.std.proofs.{lemmas.Bool.Decides.nat_tests, lemmas.List.Folds.list_any-append, lemmas.List.Folds.list_any_at}
use Rattle.std.specs.{BTreeMap.is_at, Cmp.eq_by_cmp_equiv, Option.is_some}
use Rattle.mfotl_model.specs.{Intervals.in_interval, Values.row_cmp, Values.row_total, Tables.has_row, Tables.part}
use Rattle.mfotl_model.specs.declared.{interval.Interval.Interval, value.Value.Value}
use Rattle.row_times.specs.{Groups.times_at}
use Rattle.eval_since.specs.{Windows.Past, Windows.IsThinned}
use Rattle.mfotl_model.proofs.TimeLemmas.{too_far}
use Rattle.row_times.specs.Times.{reaches, ArePast, is_new, added, recent}

-- the old times reach nothing any more
reaches_recent : (interval : Interval) (hi now x : ℕ) (ys : List ℕ) → interval.hi ≡ Some hi → now ≤ x
    → reaches interval (recent hi now ys) x ≡ reaches interval ys x
unfolding recent
reaches_recent interval hi now x [] e l = refl
reaches_recent interval hi now x (y ∷ ys) e l = grind (arith, too_far, reaches_recent interval hi now x ys e l)

pub reaches_thinned : (interval : Interval) (hi now x : ℕ) (old new : List ℕ) → interval.hi ≡ Some hi → now ≤ x
    → IsThinned hi now old new → reaches interval new x ≡ reaches interval old x
reaches_thinned interval hi now x old new e l h = grind (arith, reaches_recent)

-- without an upper end an earlier time reaches where a later one does
unbounded : (interval : Interval) (x y now : ℕ) → interval.hi ≡ None → y ≤ now
    → in_interval interval (x - now) ≡ true → in_interval interval (x - y) ≡ true
unbounded interval x y now e l h = grind (arith, nat_tests)

-- where a time is not worth keeping, what it reaches is reached
not_kept : (interval : Interval) (ys : List ℕ) (now x : ℕ) → ArePast now ys
    → is_new (is_some interval.hi) ys now ≡ false → in_interval interval (x - now) ≡ true → reaches interval ys x ≡ true
not_kept interval ys now x past old h = grind (arith, list_any_at, unbounded)

pub reaches_added : (interval : Interval) (ys : List ℕ) (now x : ℕ) → ArePast now ys
    → reaches interval (added (is_some interval.hi) ys now) x
    ≡ (reaches interval ys x || in_interval interval (x - now))
unfolding added
reaches_added interval ys now x past = grind (arith, list_any-append, not_kept)

-- both, at a row's own group
pub reaches_step : (interval : Interval) (right left : List ℕ) (goes : List Value → Bool) (rights : List (List Value))
    (u : List Value) (now x : ℕ) (old held new : List (List Value × List (List Value × List ℕ))) → Past now held
    → ((q v : List Value) → times_at held q v ≡ cond (goes q) (times_at old q v) [])
    → ((q v : List Value) → times_at new q v ≡ cond (is_at (row_cmp (part right left v)) q && has_row rights v)
    (added (is_some interval.hi) (times_at held q v) now) (times_at held q v))
    → reaches interval (times_at new (part right left u) u) x
    ≡ ((reaches interval (times_at old (part right left u) u) x && goes (part right left u))
    || (in_interval interval (x - now) && has_row rights u))
reaches_step interval right left goes rights u now x old held new past first second =
    let k = part right left u in
    let one_more = reaches_added interval (times_at held k u) now x (past k u) in
    grind (arith, first k u, second k u, (eq_by_cmp_equiv row_total).refl k, one_more)
