-- When the state of a conjunction whose right side is asked for the left one's rows stands for a log, in a region of
-- rows.
use Rattle.std.specs.Prelude.{◌≡◌, ◌+◌, true, false, Option, Some, None, length}
use Rattle.mfotl_model.specs.Exact.{AllExact, View}
use Rattle.mfotl_model.specs.FreeVariables.{fv}
use Rattle.mfotl_model.specs.Tables.{TableOf}
use Rattle.monitorable.specs.CoreForms.{CoreForm, meaning, And}
use Rattle.core_arranging.specs.Windows.{left_operand}
use Rattle.monitor_nodes.specs.Operands.{adds_none, filters, is_negated}
use Rattle.monitor_nodes.specs.Views.{reached}
use Rattle.monitor_nodes.specs.WindowNode.{IsWindow, WindowStands, window_took_all}
use Rattle.monitor_nodes.specs.declared.filter.FilterState.{FilterState}

-- the right side only filters, or has more columns: those of both stand in this order
abbrev pub GivenAs : CoreForm → CoreForm → Option TableOf → Type 0
GivenAs f g None = adds_none f g ≡ true
GivenAs f g (Some order) = (is_negated g ≡ false) × (order.columns ≡ fv (meaning (And f g)))

-- the state is one of a conjunction of the cores f and g, of which g is asked for the rows of f
pub record IsFilter (f g : CoreForm) (s : FilterState) : Type 0 where
  pub only : filters f g ≡ true
  pub turns : s.negated ≡ is_negated g
  pub asks : IsWindow (left_operand g) s.window
  pub gives : GivenAs f g s.order

-- The state stands for the log: it gave the tables of the settled positions, and keeps those of the left side that
-- were not used, which are exact; the window stands where the conjunction does, and took all that it can.
pub record FilterStands (view : View) (f g : CoreForm) (s : FilterState) : Type 0 where
  pub pushed : reached view (And f g) + length s.tables ≡ reached view f
  pub exact : AllExact view (meaning f) (reached view (And f g)) s.tables
  pub behind : WindowStands view (reached view (And f g)) (left_operand g) s.window
  pub all : window_took_all s.window ≡ true
