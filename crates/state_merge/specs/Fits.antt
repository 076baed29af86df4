-- When two states can be united: they have one shape, and what they keep for rows stands in order.
use Rattle.std.specs.Prelude.{◌≡◌, List, [], ◌∷◌}
use Rattle.std.specs.List.{AllByRecursion}
use Rattle.std.specs.List.Sorted.{IsStrictlyIncreasing}
use Rattle.mfotl_model.specs.Tables.{TableOf}
use Rattle.eval_bool.specs.BoolData.{kept_tables}
use Rattle.row_times.specs.KeptTimes.{times_kept}
use Rattle.row_times.specs.declared.kept_row.KeptRow.{KeptRow}
use Rattle.eval_since.specs.declared.recalled.SinceData.{SinceData}
use Rattle.until_rows.specs.Recalled.{starts_kept}
use Rattle.until_rows.specs.declared.recalled.KeptMarks.{KeptMarks}
use Rattle.eval_until.specs.declared.recalled.UntilData.{UntilData}
use Rattle.relations.specs.KeptRows.{RowsAscend}
use Rattle.monitor_state.specs.StateStands.{marks_kept}
use Rattle.monitor_state.specs.declared.state.NodeData.{NodeData}
use Rattle.monitor_state.specs.declared.state.NodeData.TheVariants as kept
use Rattle.monitor_state.specs.declared.state.State.{State}
use Rattle.monitor_state.specs.declared.state.WindowData.{WindowData}
use Rattle.monitor_state.specs.declared.state.WindowData.TheVariants as window
use Rattle.state_merge.specs.Pairs.{MarksAscend}

-- as many tables, over the same columns
abbrev pub TablesFit : List TableOf → List TableOf → Type 0
TablesFit [] [] = Unit {0}
TablesFit (a ∷ xs) (b ∷ ys) = (a.columns ≡ b.columns) × TablesFit xs ys
TablesFit xs ys = ⊥

-- as many lists of tables, which fit
abbrev pub ListsFit : List (List TableOf) → List (List TableOf) → Type 0
ListsFit [] [] = Unit {0}
ListsFit (a ∷ xs) (b ∷ ys) = TablesFit a b × ListsFit xs ys
ListsFit xs ys = ⊥

-- the rows of SINCE stand in order, and the times of each
pub record SinceOrdered (s : SinceData) : Type 0 where
  pub rows : RowsAscend (times_kept s.rows.items)
  pub times : AllByRecursion (λ (k : KeptRow). IsStrictlyIncreasing k.times.items) s.rows.items

-- the rows of UNTIL stand in order, and the marks of each
pub record UntilOrdered (s : UntilData) : Type 0 where
  pub starts : RowsAscend (starts_kept s.starts.items)
  pub rows : RowsAscend (marks_kept s.rows.items)
  pub marks : AllByRecursion (λ (k : KeptMarks). MarksAscend k.marks.items) s.rows.items

-- the data of SINCEs fits
pub record SincesFit (a b : SinceData) : Type 0 where
  pub lefts : TablesFit a.lefts.items b.lefts.items
  pub rights : TablesFit a.rights.items b.rights.items
  pub first : SinceOrdered a
  pub second : SinceOrdered b

-- that of UNTILs
pub record UntilsFit (a b : UntilData) : Type 0 where
  pub lefts : TablesFit a.lefts.items b.lefts.items
  pub rights : TablesFit a.rights.items b.rights.items
  pub first : UntilOrdered a
  pub second : UntilOrdered b

-- that of windows
abbrev pub WindowsFit : WindowData → WindowData → Type 0
WindowsFit (window.Since a) (window.Since b) = SincesFit a.kept b.kept
WindowsFit (window.Until a) (window.Until b) = UntilsFit a.kept b.kept
WindowsFit a b = ⊥

-- that of nodes: they are of one kind
abbrev pub NodesAlike : NodeData → NodeData → Type 0
NodesAlike kept.Bare kept.Bare = Unit {0}
NodesAlike (kept.Join a) (kept.Join b) = ListsFit (kept_tables a) (kept_tables b)
NodesAlike (kept.Or a) (kept.Or b) = TablesFit a.lefts.items b.lefts.items × TablesFit a.rights.items b.rights.items
NodesAlike (kept.Previous a) (kept.Previous b) = TablesFit a.tables.items b.tables.items
NodesAlike (kept.Next a) (kept.Next b) = TablesFit a.tables.items b.tables.items
NodesAlike (kept.Window a) (kept.Window b) = WindowsFit a b
NodesAlike (kept.Filter xs a) (kept.Filter ys b) = TablesFit xs.items ys.items × WindowsFit a b
NodesAlike a b = ⊥

-- node by node
abbrev pub AllAlike : List NodeData → List NodeData → Type 0
AllAlike [] [] = Unit {0}
AllAlike (a ∷ xs) (b ∷ ys) = NodesAlike a b × AllAlike xs ys
AllAlike xs ys = ⊥

-- the states can be united
abbrev pub CanBeUnited : State → State → Type 0
CanBeUnited a b = AllAlike a.nodes.items b.nodes.items
