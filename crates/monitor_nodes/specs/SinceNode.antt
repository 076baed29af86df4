-- When the state of a SINCE stands for a log, in a region of rows.
use Rattle.std.specs.Prelude.{◌≡◌, ℕ, ◌+◌, ◌-◌, Bool, true, List, length, drop}
use Rattle.mfotl_model.specs.Exact.{AllExact, Covers, View}
use Rattle.mfotl_model.specs.FreeVariables.{fv, joined}
use Rattle.mfotl_model.specs.Log.{times}
use Rattle.mfotl_model.specs.Satisfaction.{Valuation}
use Rattle.mfotl_model.specs.Tables.{TableOf}
use Rattle.mfotl_model.specs.declared.interval.Interval.{Interval}
use Rattle.mfotl_model.specs.declared.value.Value.{Value}
use Rattle.core_arranging.specs.Windows.{left_operand}
use Rattle.eval_since.specs.SinceView.{Follows, SinceOf}
use Rattle.monitorable.specs.CoreForms.{CoreForm, meaning, Since}
use Rattle.monitor_nodes.specs.Operands.{is_negated}
use Rattle.monitor_nodes.specs.Stamps.{stamps}
use Rattle.monitor_nodes.specs.Views.{Dates, Tells, reached}

-- the state is one of a SINCE of the cores f and g, with this interval
pub record IsSinceState (i : Interval) (f g : CoreForm) (s : SinceOf) : Type 0 where
  pub interval : s.window.interval ≡ i
  pub negated : s.negated ≡ is_negated f
  pub left : s.window.left ≡ fv (meaning (left_operand f))
  pub right : s.window.right ≡ fv (meaning g)

-- the same, and its tables are put into the order of the columns of both
pub record IsSince (i : Interval) (f g : CoreForm) (s : SinceOf) (order : TableOf) : Type 0 where
  pub state : IsSinceState i f g s
  pub ordered : order.columns ≡ joined (fv (meaning f)) (fv (meaning g))

-- The state of a SINCE stands for the log with p positions pulled: it knows the log's timestamps from the position
-- pulled last on, and keeps the operands' tables that were not used; these are exact, and it is right for each near
-- row.
pub record SinceStandsAt (view : View) (p : ℕ) (i : Interval) (f g : CoreForm) (s : SinceOf) : Type 0 where
  pub pulled : s.pulled ≡ p
  pub timed : s.pulled + length s.times ≡ length view.log
  pub known : stamps s.pulled s.window.last s.times ≡ drop (s.pulled - 1) (times view.log)
  pub left_pushed : s.pulled + length s.lefts ≡ reached view f
  pub right_pushed : s.pulled + length s.rights ≡ reached view g
  pub lefts : AllExact view (meaning (left_operand f)) s.pulled s.lefts
  pub rights : AllExact view (meaning g) s.pulled s.rights
  pub follows : (dom : List Value) (v : Valuation) → Covers view dom → view.near (fv (meaning g)) v ≡ true
      → (t : List ℕ) (a b : List Bool) → Dates view t → Tells view dom v f a → Tells view dom v g b
      → Follows s t a b v

-- it gave the tables of the settled positions
abbrev pub SinceStands : View → Interval → CoreForm → CoreForm → SinceOf → Type 0
SinceStands view i f g s = SinceStandsAt view (reached view (Since i f g)) i f g s
