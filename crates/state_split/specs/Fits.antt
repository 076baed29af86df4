-- When the rows of a state have a value for each of their columns, and what is cut of it where they have.
use Rattle.std.specs.Prelude.{◌≡◌, ℕ, true, nat_eq, List, length}
use Rattle.std.specs.List.{AllByRecursion}
use Rattle.mfotl_model.specs.declared.value.Value.{Value}
use Rattle.row_times.specs.KeptTimes.{times_kept}
use Rattle.until_rows.specs.Recalled.{starts_kept}
use Rattle.mfotl_model.specs.Regions.{Region}
use Rattle.monitor_state.specs.StateCuts.{NodeCut, WindowCut}
use Rattle.monitor_state.specs.StateStands.{marks_kept}
use Rattle.monitor_state.specs.declared.state.NodeData.{NodeData}
use Rattle.monitor_state.specs.declared.state.NodeData.TheVariants as kept
use Rattle.monitor_state.specs.declared.state.SinceKept.{SinceKept}
use Rattle.monitor_state.specs.declared.state.UntilKept.{UntilKept}
use Rattle.monitor_state.specs.declared.state.WindowData.{WindowData}
use Rattle.monitor_state.specs.declared.state.WindowData.TheVariants as window
use Rattle.state_split.specs.Shares.{OneEach}

-- each of the rows has
abbrev pub RowsFit : {X : Type 0} → List ℕ → List (List Value × X) → Type 0
RowsFit columns rows = AllByRecursion (λ e. nat_eq (length e.0) (length columns) ≡ true) rows

-- those of a SINCE
abbrev pub SinceFits : SinceKept → Type 0
SinceFits s = RowsFit s.columns.items (times_kept s.kept.rows.items)

-- those of an UNTIL
abbrev pub UntilFits : UntilKept → Type 0
UntilFits s =
    RowsFit s.left.items (starts_kept s.kept.starts.items) × RowsFit s.right.items (marks_kept s.kept.rows.items)

-- those of a window
abbrev pub WindowFits : WindowData → Type 0
WindowFits (window.Since s) = SinceFits s
WindowFits (window.Until s) = UntilFits s

-- those of a node; the rows of tables always have
abbrev pub NodeFits : NodeData → Type 0
NodeFits (kept.Window w) = WindowFits w
NodeFits (kept.Filter tables w) = WindowFits w
NodeFits other = Unit {0}

-- those of all nodes
abbrev pub NodesFit : List NodeData → Type 0
NodesFit nodes = AllByRecursion NodeFits nodes

-- there is a cut of the window for each of so many workers, to the worker's region
abbrev pub CutWindows : ℕ → (ℕ → Region) → WindowData → List WindowData → Type 0
CutWindows count near old cuts = OneEach count (λ k cut. WindowFits old → WindowCut (near k) old cut) cuts

-- the same of a node
abbrev pub CutNodes : ℕ → (ℕ → Region) → NodeData → List NodeData → Type 0
CutNodes count near old cuts = OneEach count (λ k cut. NodeFits old → NodeCut (near k) old cut) cuts
