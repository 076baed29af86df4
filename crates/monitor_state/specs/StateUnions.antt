-- Two states of one shape united: each table and each window has the rows of both.
use Rattle.std.specs.Prelude.{◌≡◌, ◌||◌, min, List, [], ◌∷◌}
use Rattle.mfotl_model.specs.Tables.{TableOf, has_row}
use Rattle.mfotl_model.specs.declared.value.Value.{Value}
use Rattle.eval_bool.specs.BoolData.{kept_tables}
use Rattle.eval_bool.specs.declared.recalled.JoinData.{JoinData}
use Rattle.eval_bool.specs.declared.recalled.OrData.{OrData}
use Rattle.row_times.specs.KeptTimes.{times_kept}
use Rattle.eval_since.specs.declared.recalled.PrevData.{PrevData}
use Rattle.until_rows.specs.Recalled.{starts_kept}
use Rattle.eval_until.specs.declared.recalled.NextData.{NextData}
use Rattle.monitor_state.specs.JoinedRows.{RowsUnion, marks_joined, times_joined}
use Rattle.monitor_state.specs.StateStands.{marks_kept}
use Rattle.monitor_state.specs.declared.state.NodeData.{NodeData}
use Rattle.monitor_state.specs.declared.state.NodeData.TheVariants as kept
use Rattle.monitor_state.specs.declared.state.SinceKept.{SinceKept}
use Rattle.monitor_state.specs.declared.state.State.{State}
use Rattle.monitor_state.specs.declared.state.UntilKept.{UntilKept}
use Rattle.monitor_state.specs.declared.state.WindowData.{WindowData}
use Rattle.monitor_state.specs.declared.state.WindowData.TheVariants as window

-- the rows of both tables
pub record TableUnion (a b c : TableOf) : Type 0 where
  pub columns : c.columns ≡ a.columns
  pub rows : (u : List Value) → has_row c.rows u ≡ (has_row a.rows u || has_row b.rows u)

-- table by table
abbrev pub TablesUnion : List TableOf → List TableOf → List TableOf → Type 0
TablesUnion [] [] [] = Unit {0}
TablesUnion (a ∷ xs) (b ∷ ys) (c ∷ zs) = TableUnion a b c × TablesUnion xs ys zs
TablesUnion xs ys zs = ⊥

-- child by child
abbrev pub ListsUnion : List (List TableOf) → List (List TableOf) → List (List TableOf) → Type 0
ListsUnion [] [] [] = Unit {0}
ListsUnion (a ∷ xs) (b ∷ ys) (c ∷ zs) = TablesUnion a b c × ListsUnion xs ys zs
ListsUnion xs ys zs = ⊥

-- the data of conjunctions united
pub record JoinUnion (a b c : JoinData) : Type 0 where
  pub pulled : c.pulled ≡ a.pulled
  pub tables : ListsUnion (kept_tables a) (kept_tables b) (kept_tables c)

-- that of ORs
pub record OrUnion (a b c : OrData) : Type 0 where
  pub pulled : c.pulled ≡ a.pulled
  pub lefts : TablesUnion a.lefts.items b.lefts.items c.lefts.items
  pub rights : TablesUnion a.rights.items b.rights.items c.rights.items

-- that of PREVIOUS
pub record PreviousUnion (a b c : PrevData) : Type 0 where
  pub pulled : c.pulled ≡ a.pulled
  pub tables : TablesUnion a.tables.items b.tables.items c.tables.items

-- that of NEXT
pub record NextUnion (a b c : NextData) : Type 0 where
  pub pulled : c.pulled ≡ a.pulled
  pub started : c.started ≡ a.started
  pub tables : TablesUnion a.tables.items b.tables.items c.tables.items

-- that of SINCEs
pub record SinceUnion (a b c : SinceKept) : Type 0 where
  pub interval : c.interval ≡ a.interval
  pub columns : c.columns.items ≡ a.columns.items
  pub pulled : c.kept.pulled ≡ a.kept.pulled
  pub lefts : TablesUnion a.kept.lefts.items b.kept.lefts.items c.kept.lefts.items
  pub rights : TablesUnion a.kept.rights.items b.kept.rights.items c.kept.rights.items
  pub rows : RowsUnion (times_joined a.interval.hi) (times_kept a.kept.rows.items) (times_kept b.kept.rows.items)
      (times_kept c.kept.rows.items)

-- that of UNTILs
pub record UntilUnion (a b c : UntilKept) : Type 0 where
  pub left : c.left.items ≡ a.left.items
  pub right : c.right.items ≡ a.right.items
  pub pulled : c.kept.pulled ≡ a.kept.pulled
  pub taken : c.kept.taken ≡ a.kept.taken
  pub lefts : TablesUnion a.kept.lefts.items b.kept.lefts.items c.kept.lefts.items
  pub rights : TablesUnion a.kept.rights.items b.kept.rights.items c.kept.rights.items
  pub starts : RowsUnion min (starts_kept a.kept.starts.items) (starts_kept b.kept.starts.items)
      (starts_kept c.kept.starts.items)
  pub rows : RowsUnion marks_joined (marks_kept a.kept.rows.items) (marks_kept b.kept.rows.items)
      (marks_kept c.kept.rows.items)

-- that of windows
abbrev pub WindowUnion : WindowData → WindowData → WindowData → Type 0
WindowUnion (window.Since a) (window.Since b) (window.Since c) = SinceUnion a b c
WindowUnion (window.Until a) (window.Until b) (window.Until c) = UntilUnion a b c
WindowUnion a b c = ⊥

-- that of nodes
abbrev pub NodeUnion : NodeData → NodeData → NodeData → Type 0
NodeUnion kept.Bare kept.Bare kept.Bare = Unit {0}
NodeUnion (kept.Join a) (kept.Join b) (kept.Join c) = JoinUnion a b c
NodeUnion (kept.Or a) (kept.Or b) (kept.Or c) = OrUnion a b c
NodeUnion (kept.Previous a) (kept.Previous b) (kept.Previous c) = PreviousUnion a b c
NodeUnion (kept.Next a) (kept.Next b) (kept.Next c) = NextUnion a b c
NodeUnion (kept.Window a) (kept.Window b) (kept.Window c) = WindowUnion a b c
NodeUnion (kept.Filter xs a) (kept.Filter ys b) (kept.Filter zs c) =
    TablesUnion xs.items ys.items zs.items × WindowUnion a b c
NodeUnion a b c = ⊥

-- node by node
abbrev pub NodesUnion : List NodeData → List NodeData → List NodeData → Type 0
NodesUnion [] [] [] = Unit {0}
NodesUnion (a ∷ xs) (b ∷ ys) (c ∷ zs) = NodeUnion a b c × NodesUnion xs ys zs
NodesUnion xs ys zs = ⊥

-- the third state is the first two united
pub record StateUnion (a b c : State) : Type 0 where
  pub taken : c.taken ≡ a.taken
  pub given : c.given ≡ a.given
  pub times : c.times.items ≡ a.times.items
  pub nodes : NodesUnion a.nodes.items b.nodes.items c.nodes.items
