-- When the state of a window, a SINCE or an UNTIL, stands for a log, in a region of rows, and what it answers.
use Rattle.std.specs.Prelude.{◌≡◌, ℕ, Bool, true, List}
use Rattle.mfotl_model.specs.Exact.{View}
use Rattle.mfotl_model.specs.Satisfaction.{Valuation, since, until}
use Rattle.mfotl_model.specs.Times.{NeverFalls}
use Rattle.eval_since.specs.SinceView.{Follows, due}
use Rattle.eval_until.specs.UntilView.{Follows as FollowsUntil, due as due_until, took_all}
use Rattle.monitorable.specs.CoreForms.{CoreForm, Since, Until}
use Rattle.monitor_nodes.specs.SinceNode.{IsSinceState, SinceStandsAt}
use Rattle.monitor_nodes.specs.UntilNode.{IsUntilState, UntilStandsAt}
use Rattle.monitor_nodes.specs.declared.window.Window.{Window}
use Rattle.monitor_nodes.specs.declared.window.Window.TheVariants as window

-- the state is one of the core, a window
abbrev pub IsWindow : CoreForm → Window → Type 0
IsWindow (Since i f g) (window.Since s) = IsSinceState i f g s
IsWindow (Until i f g) (window.Until s) = IsUntilState i f g s
IsWindow f other = ⊥

-- it stands for the log with p positions pulled
abbrev pub WindowStands : View → ℕ → CoreForm → Window → Type 0
WindowStands view p (Since i f g) (window.Since s) = SinceStandsAt view p i f g s
WindowStands view p (Until i f g) (window.Until s) = UntilStandsAt view p i f g s
WindowStands view p f other = ⊥

-- the columns of its rows
abbrev pub window_columns : Window → List ℕ
window_columns (window.Since s) = s.window.right
window_columns (window.Until s) = s.ahead.right

-- whether the next position can be asked for and pulled
abbrev pub window_due : Window → Bool
window_due (window.Since s) = due s
window_due (window.Until s) = due_until s

-- whether it took all positions that it can
abbrev pub window_took_all : Window → Bool
window_took_all (window.Since s) = true
window_took_all (window.Until s) = took_all s

-- whether the window holds of a valuation at the next position, as far as its state is right for it
abbrev pub WindowHolds : Window → Valuation → Bool → Type 0
WindowHolds (window.Since s) v answer =
    (t : List ℕ) (a b : List Bool) → Follows s t a b v → answer ≡ since s.window.interval t a b s.pulled
WindowHolds (window.Until s) v answer =
    (t : List ℕ) (a b : List Bool) → FollowsUntil s t a b v → NeverFalls t
    → answer ≡ until s.ahead.interval t a b s.ahead.pulled
