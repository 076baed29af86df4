-- When the state of an UNTIL stands for a log, in a region of rows.
use Rattle.std.specs.Prelude.{◌≡◌, ℕ, ◌+◌, ◌≤◌, Bool, true, List, length, drop, min}
use Rattle.mfotl_model.specs.Exact.{AllExact, Covers, View}
use Rattle.mfotl_model.specs.FreeVariables.{fv, joined}
use Rattle.mfotl_model.specs.Log.{times}
use Rattle.mfotl_model.specs.Satisfaction.{Valuation}
use Rattle.mfotl_model.specs.Tables.{TableOf}
use Rattle.mfotl_model.specs.declared.interval.Interval.{Interval}
use Rattle.mfotl_model.specs.declared.value.Value.{Value}
use Rattle.core_arranging.specs.Windows.{left_operand}
use Rattle.eval_until.specs.UntilView.{Follows, FollowsLeft, UntilOf}
use Rattle.monitorable.specs.CoreForms.{CoreForm, meaning, Until}
use Rattle.monitor_nodes.specs.Operands.{is_negated}
use Rattle.monitor_nodes.specs.Views.{Dates, Tells, reached}

-- the state is one of an UNTIL of the cores f and g, with this interval
pub record IsUntilState (i : Interval) (f g : CoreForm) (s : UntilOf) : Type 0 where
  pub interval : s.ahead.interval ≡ i
  pub negated : s.ahead.negated ≡ is_negated f
  pub left : s.ahead.left ≡ fv (meaning (left_operand f))
  pub right : s.ahead.right ≡ fv (meaning g)

-- the same, and its tables are put into the order of the columns of both
pub record IsUntil (i : Interval) (f g : CoreForm) (s : UntilOf) (order : TableOf) : Type 0 where
  pub state : IsUntilState i f g s
  pub ordered : order.columns ≡ joined (fv (meaning f)) (fv (meaning g))

-- The state of an UNTIL stands for the log with p positions pulled: it keeps the timestamps of the positions that
-- it gave no table of, and the operands' tables that it didn't take. These are exact; its left side is right for
-- each row that is near over the left operand's variables, and all of it for each near row of the right one's.
pub record UntilStandsAt (view : View) (p : ℕ) (i : Interval) (f g : CoreForm) (s : UntilOf) : Type 0 where
  pub pulled : s.ahead.pulled ≡ p
  pub kept : s.times ≡ drop s.ahead.pulled (times view.log)
  pub left_pushed : s.ahead.taken + length s.lefts ≡ reached view f
  pub right_pushed : s.ahead.taken + length s.rights ≡ reached view g
  pub lefts : AllExact view (meaning (left_operand f)) s.ahead.taken s.lefts
  pub rights : AllExact view (meaning g) s.ahead.taken s.rights
  pub left : (dom : List Value) (v : Valuation) → Covers view dom → view.near (fv (meaning f)) v ≡ true
      → (a : List Bool) → Tells view dom v f a → FollowsLeft s a v
  pub follows : (dom : List Value) (v : Valuation) → Covers view dom → view.near (fv (meaning g)) v ≡ true
      → (t : List ℕ) (a b : List Bool) → Dates view t → length view.log ≤ length t → Tells view dom v f a
      → Tells view dom v g b → Follows s t a b v

-- it gave the tables of the settled positions, and took those of both operands as far as both are settled
pub record UntilStands (view : View) (i : Interval) (f g : CoreForm) (s : UntilOf) : Type 0 where
  pub at : UntilStandsAt view (reached view (Until i f g)) i f g s
  pub taken : s.ahead.taken ≡ min (reached view f) (reached view g)
