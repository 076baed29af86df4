-- A window's state over one step.
use Rattle.std.proofs.Common.{◌≡◌, ℕ, ◌+◌, ◌<◌, ◌≤◌, Bool, true, ◌&&◌, nat_lt, List, [], ◌∷◌, length, ◌∙◌, arith, rules}
use Rattle.std.proofs.lemmas.Bool.Decides.{nat_tests}
use Rattle.std.specs.Cmp.{both_ways}
use Rattle.mfotl_model.specs.{Exact.View, Exact.Covers, FreeVariables.fv, Log.times, Regions.Passes}
use Rattle.mfotl_model.specs.{Satisfaction.Valuation, Satisfaction.sat, Settled.settled, Tables.TableOf}
use Rattle.mfotl_model.specs.{Times.NeverFalls}
use Rattle.mfotl_model.specs.declared.{event.TimePoint.TimePoint, interval.Interval.Interval, value.Value.Value}
use Rattle.eval_since.specs.SinceView.{SinceOf, due}
use Rattle.eval_until.specs.UntilView.{UntilOf, to_take}
use Rattle.monitorable.specs.CoreForms.{CoreForm, meaning, Since, Until}
use Rattle.monitorable.specs.Soundness.{IsWellFormedIn}
use Rattle.monitor_nodes.proofs.{CountLemmas.since_counted, ExactLemmas.reached_within, RegionLemmas.near_right}
use Rattle.monitor_nodes.proofs.{FeedingLemmas.since_due_parts, GrowthLemmas.told}
use Rattle.monitor_nodes.proofs.SinceSteps.{since_fed, since_moved, since_right}
use Rattle.monitor_nodes.proofs.UntilSteps.{UntilMoves, until_due_at, until_fed, until_moved, until_right}
use Rattle.monitor_nodes.specs.FilterFeeding.{UntilSettles, WindowFeeds, WindowGoes, WindowSettles}
use Rattle.monitor_nodes.specs.{Operands.window_operands, SinceNode.SinceStandsAt, Steps.StackNews, Steps.longer}
use Rattle.monitor_nodes.specs.WindowNode.{WindowHolds, IsWindow, WindowStands, window_due}
use Rattle.monitor_nodes.specs.declared.window.Window.{Window}
use Rattle.monitor_nodes.specs.declared.window.Window.TheVariants as window

-- a time and the operands' tables were pushed
pub window_fed : (view : View) (point : TimePoint) (whole w : CoreForm) (old fed : Window) (p ts : ℕ)
    (ls rs : List TableOf) → IsWindow w old → WindowStands view p w old → p ≤ length view.log
    → StackNews view point (window_operands w) (ls ∷ rs ∷ []) → WindowFeeds old ts ls rs fed
    → ts ≡ point.ts → NeverFalls (times (longer view point).log) → Passes (fv view.whole) view.near
    → IsWellFormedIn whole w → IsWindow w fed × WindowStands (longer view point) p w fed
window_fed view point whole (Since i f g) (window.Since old) (window.Since fed) p ts ls rs is stands inside news feeds
    ts_is rising passes sound = since_fed is stands news.0 news.1.0 feeds ts_is rising passes sound.0
window_fed view point whole (Until i f g) (window.Until old) (window.Until fed) p ts ls rs is stands inside news feeds
    ts_is rising passes sound = until_fed is stands inside news.0 news.1.0 feeds ts_is rising passes sound.0
window_fed view point whole (Since i f g) (window.Since old) (window.Until fed) p ts ls rs is stands inside news feeds
    ts_is rising passes sound = absurd feeds
window_fed view point whole (Until i f g) (window.Until old) (window.Since fed) p ts ls rs is stands inside news feeds
    ts_is rising passes sound = absurd feeds
window_fed view point whole w old fed p ts ls rs is stands inside news feeds ts_is rising passes sound = absurd is

settled_moves : (old new : UntilOf) → UntilSettles old new → UntilMoves 0 (to_take old) old new
settled_moves old new settles = search rules

-- what could be taken was
pub window_settled : (view : View) (w : CoreForm) (old new : Window) (p : ℕ) → IsWindow w old
    → WindowStands view p w old → WindowSettles old new → IsWindow w new × WindowStands view p w new
window_settled view (Since i f g) (window.Since old) (window.Since new) p is stands same = rw same (is, stands)
window_settled view (Until i f g) (window.Until old) (window.Until new) p is stands settles =
    let none : p + 0 ≡ p = omega arith in
    rw none at (until_moved (settled_moves old new settles) (is, stands))
window_settled view w old new p is stands settles = absurd assumption

-- the window went on
pub window_gone : (view : View) (w : CoreForm) (old new : Window) (p : ℕ) → IsWindow w old → WindowStands view p w old
    → window_due old ≡ true → WindowGoes old new → IsWindow w new × WindowStands view (p + 1) w new
window_gone view (Since i f g) (window.Since old) (window.Since new) p is stands ready goes =
    since_moved (grind arith) (is, stands)
window_gone view (Until i f g) (window.Until old) (window.Until new) p is stands ready goes =
    until_moved moves (is, stands)
  where
    moves : UntilMoves 1 (to_take old) old new
    moves =
        record {
          pulled = goes.0.pulled;
          taken = goes.0.taken;
          interval = goes.0.interval;
          left_columns = goes.0.left;
          right_columns = goes.0.right;
          negated = goes.0.negated;
          times = goes.0.times;
          lefts = goes.0.lefts;
          rights = goes.0.rights;
          in_lefts = omega arith;
          in_rights = omega arith;
          left = goes.1;
          follows = goes.2;
        }
window_gone view w old new p is stands ready goes = absurd assumption

all_due : (n m k : ℕ) → 0 < n → 0 < m → 0 < k → (nat_lt 0 n && nat_lt 0 m && nat_lt 0 k) ≡ true
all_due n m k times lefts rights = grind (arith, nat_tests)

since_due_at : (view : View) → NeverFalls (times view.log) → (i : Interval) (f g : CoreForm) (s : SinceOf) (p : ℕ)
    → SinceStandsAt view p i f g s → due s ≡ settled (times view.log) (meaning (Since i f g)) p
since_due_at view rising i f g s p stands =
    let counted = since_counted (times view.log) rising i (meaning f) (meaning g) p in
    both_ways (due s) (settled (times view.log) (meaning (Since i f g)) p)
    (λ h. let some = since_due_parts s h in counted.1 (omega (arith, some.1)) (omega (arith, some.2)))
    (λ h.
    let both = counted.0 h in
    all_due (length s.times) (length s.lefts) (length s.rights) (omega (arith, both.0, reached_within view f))
    (omega (arith, both.0)) (omega (arith, both.1)))

-- the next position is due where it is settled
pub window_due_at : (view : View) → NeverFalls (times view.log) → (w : CoreForm) (s : Window) (p : ℕ)
    → p ≤ length view.log
    → IsWindow w s → WindowStands view p w s → window_due s ≡ settled (times view.log) (meaning w) p
window_due_at view rising w s p inside is stands = grind (arith, since_due_at, until_due_at)

-- what the window answers of a near row is what it means
pub window_means : (view : View) → NeverFalls (times view.log) → Passes (fv view.whole) view.near
    → (w : CoreForm) (s : Window) (p : ℕ) → IsWindow w s → WindowStands view p w s
    → (dom : List Value) (v : Valuation) → Covers view dom → view.near (fv (meaning w)) v ≡ true
    → (answer : Bool) → WindowHolds s v answer → answer ≡ sat view.log dom v p (meaning w)
unfolding fv sat
window_means view rising passes (Since i f g) (window.Since s) p is stands dom v covers near answer answers =
    answers (times view.log) (told view dom v f) (told view dom v g)
    (since_right stands dom v covers
    (near_right (fv view.whole) view.near passes (fv (meaning f)) (fv (meaning g)) v near))
    ∙ rw (is.interval, stands.pulled)
window_means view rising passes (Until i f g) (window.Until s) p is stands dom v covers near answer answers =
    answers (times view.log) (told view dom v f) (told view dom v g)
    (until_right stands dom v covers
    (near_right (fv view.whole) view.near passes (fv (meaning f)) (fv (meaning g)) v near)) rising
    ∙ rw (is.interval, stands.pulled)
window_means view rising passes w s p is stands dom v covers near answer answers = absurd is
