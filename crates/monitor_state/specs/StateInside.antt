-- When a state as plain data stores nothing outside a region of rows, beside standing for a log in it.
use Rattle.std.specs.Prelude.{◌≡◌, ℕ, false, None, List, map}
use Rattle.std.specs.List.{AllByRecursion}
use Rattle.mfotl_model.specs.Exact.{View}
use Rattle.mfotl_model.specs.Regions.{Region}
use Rattle.mfotl_model.specs.Satisfaction.{Valuation}
use Rattle.mfotl_model.specs.Tables.{TableOf, has}
use Rattle.mfotl_model.specs.declared.value.Value.{Value}
use Rattle.eval_bool.specs.BoolData.{kept_tables}
use Rattle.row_times.specs.KeptTimes.{times_kept}
use Rattle.until_rows.specs.Recalled.{starts_kept}
use Rattle.monitorable.specs.CoreForms.{CoreForm}
use Rattle.relations.specs.KeptRows.{kept_for}
use Rattle.monitor_state.specs.StateRules.{StateRule}
use Rattle.monitor_state.specs.StateStands.{StateStands, marks_kept}
use Rattle.monitor_state.specs.declared.state.NodeData.{NodeData}
use Rattle.monitor_state.specs.declared.state.NodeData.TheVariants as kept
use Rattle.monitor_state.specs.declared.state.State.{State}
use Rattle.monitor_state.specs.declared.state.WindowData.{WindowData}
use Rattle.monitor_state.specs.declared.state.WindowData.TheVariants as window

-- a table has no row outside the region
abbrev pub TableInside : Region → TableOf → Type 0
TableInside near table = (v : Valuation) → near table.columns v ≡ false → has table v ≡ false

-- none of the tables has
abbrev pub TablesInside : Region → List TableOf → Type 0
TablesInside near tables = AllByRecursion (TableInside near) tables

-- for no row outside the region something is kept
abbrev pub RowsInside : {X : Type 0} → Region → List ℕ → List (List Value × X) → Type 0
RowsInside near columns rows = (v : Valuation) → near columns v ≡ false → kept_for rows (map v columns) ≡ None

-- a window's tables and rows are inside the region
abbrev pub WindowInside : Region → WindowData → Type 0
WindowInside near (window.Since s) =
    TablesInside near s.kept.lefts.items × TablesInside near s.kept.rights.items
    × RowsInside near s.columns.items (times_kept s.kept.rows.items)
WindowInside near (window.Until s) =
    TablesInside near s.kept.lefts.items × TablesInside near s.kept.rights.items
    × RowsInside near s.left.items (starts_kept s.kept.starts.items)
    × RowsInside near s.right.items (marks_kept s.kept.rows.items)

-- a node's tables and rows are
abbrev pub NodeInside : Region → NodeData → Type 0
NodeInside near kept.Bare = Unit {0}
NodeInside near (kept.Join s) = AllByRecursion (TablesInside near) (kept_tables s)
NodeInside near (kept.Or s) = TablesInside near s.lefts.items × TablesInside near s.rights.items
NodeInside near (kept.Previous s) = TablesInside near s.tables.items
NodeInside near (kept.Next s) = TablesInside near s.tables.items
NodeInside near (kept.Window w) = WindowInside near w
NodeInside near (kept.Filter tables w) = TablesInside near tables.items × WindowInside near w

-- nothing is stored outside the region
abbrev pub StoresInside : Region → State → Type 0
StoresInside near s = AllByRecursion (NodeInside near) s.nodes.items

-- the state keeps the rule, stands for the log in the region, and stores nothing outside it
pub record StandsInside (view : View) (core : CoreForm) (s : State) : Type 0 where
  pub rule : StateRule core s
  pub stands : StateStands view core s
  pub inside : StoresInside view.near s
