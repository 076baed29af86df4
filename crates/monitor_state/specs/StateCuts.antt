-- A state cut to a region: each table and each window keeps exactly the rows that lie in it, with all that is kept
-- for them; counts, timestamps and shape stay.
use Rattle.std.specs.Prelude.{◌≡◌, ℕ, Bool, List, [], ◌∷◌, filter, map}
use Rattle.mfotl_model.specs.Regions.{Region}
use Rattle.mfotl_model.specs.Tables.{TableOf, valuation}
use Rattle.mfotl_model.specs.declared.value.Value.{Value}
use Rattle.eval_bool.specs.BoolData.{kept_tables}
use Rattle.eval_bool.specs.declared.recalled.JoinData.{JoinData}
use Rattle.eval_bool.specs.declared.recalled.OrData.{OrData}
use Rattle.row_times.specs.KeptTimes.{times_kept}
use Rattle.eval_since.specs.declared.recalled.PrevData.{PrevData}
use Rattle.until_rows.specs.Recalled.{starts_kept}
use Rattle.eval_until.specs.declared.recalled.NextData.{NextData}
use Rattle.monitor_state.specs.StateStands.{marks_kept}
use Rattle.monitor_state.specs.declared.state.NodeData.{NodeData}
use Rattle.monitor_state.specs.declared.state.NodeData.TheVariants as kept
use Rattle.monitor_state.specs.declared.state.SinceKept.{SinceKept}
use Rattle.monitor_state.specs.declared.state.State.{State}
use Rattle.monitor_state.specs.declared.state.UntilKept.{UntilKept}
use Rattle.monitor_state.specs.declared.state.WindowData.{WindowData}
use Rattle.monitor_state.specs.declared.state.WindowData.TheVariants as window

-- whether a row over these columns lies in the region
abbrev pub lies : Region → List ℕ → List Value → Bool
lies near columns row = near columns (valuation columns row)

-- a table with the rows alone that lie in the region
abbrev pub cut_table : Region → TableOf → TableOf
cut_table near table = record table { rows = filter (lies near table.columns) table.rows }

-- each of the tables
abbrev pub cut_tables : Region → List TableOf → List TableOf
cut_tables near tables = map (cut_table near) tables

-- rows over these columns, with what is kept for them
abbrev pub cut_rows : {X : Type 0} → Region → List ℕ → List (List Value × X) → List (List Value × X)
cut_rows near columns rows = filter (λ e. lies near columns e.0) rows

-- the data of a conjunction, cut
pub record JoinCut (near : Region) (old new : JoinData) : Type 0 where
  pub pulled : new.pulled ≡ old.pulled
  pub tables : kept_tables new ≡ map (cut_tables near) (kept_tables old)

-- that of an OR
pub record OrCut (near : Region) (old new : OrData) : Type 0 where
  pub pulled : new.pulled ≡ old.pulled
  pub lefts : new.lefts.items ≡ cut_tables near old.lefts.items
  pub rights : new.rights.items ≡ cut_tables near old.rights.items

-- that of a PREVIOUS
pub record PreviousCut (near : Region) (old new : PrevData) : Type 0 where
  pub pulled : new.pulled ≡ old.pulled
  pub tables : new.tables.items ≡ cut_tables near old.tables.items

-- that of a NEXT
pub record NextCut (near : Region) (old new : NextData) : Type 0 where
  pub pulled : new.pulled ≡ old.pulled
  pub started : new.started ≡ old.started
  pub tables : new.tables.items ≡ cut_tables near old.tables.items

-- that of a SINCE
pub record SinceCut (near : Region) (old new : SinceKept) : Type 0 where
  pub interval : new.interval ≡ old.interval
  pub columns : new.columns.items ≡ old.columns.items
  pub pulled : new.kept.pulled ≡ old.kept.pulled
  pub lefts : new.kept.lefts.items ≡ cut_tables near old.kept.lefts.items
  pub rights : new.kept.rights.items ≡ cut_tables near old.kept.rights.items
  pub rows : times_kept new.kept.rows.items ≡ cut_rows near old.columns.items (times_kept old.kept.rows.items)

-- that of an UNTIL
pub record UntilCut (near : Region) (old new : UntilKept) : Type 0 where
  pub left : new.left.items ≡ old.left.items
  pub right : new.right.items ≡ old.right.items
  pub pulled : new.kept.pulled ≡ old.kept.pulled
  pub taken : new.kept.taken ≡ old.kept.taken
  pub lefts : new.kept.lefts.items ≡ cut_tables near old.kept.lefts.items
  pub rights : new.kept.rights.items ≡ cut_tables near old.kept.rights.items
  pub starts : starts_kept new.kept.starts.items ≡ cut_rows near old.left.items (starts_kept old.kept.starts.items)
  pub rows : marks_kept new.kept.rows.items ≡ cut_rows near old.right.items (marks_kept old.kept.rows.items)

-- that of a window
abbrev pub WindowCut : Region → WindowData → WindowData → Type 0
WindowCut near (window.Since old) (window.Since new) = SinceCut near old new
WindowCut near (window.Until old) (window.Until new) = UntilCut near old new
WindowCut near old new = ⊥

-- that of a node
abbrev pub NodeCut : Region → NodeData → NodeData → Type 0
NodeCut near kept.Bare kept.Bare = Unit {0}
NodeCut near (kept.Join old) (kept.Join new) = JoinCut near old new
NodeCut near (kept.Or old) (kept.Or new) = OrCut near old new
NodeCut near (kept.Previous old) (kept.Previous new) = PreviousCut near old new
NodeCut near (kept.Next old) (kept.Next new) = NextCut near old new
NodeCut near (kept.Window old) (kept.Window new) = WindowCut near old new
NodeCut near (kept.Filter tables old) (kept.Filter cut new) =
    (cut.items ≡ cut_tables near tables.items) × WindowCut near old new
NodeCut near old new = ⊥

-- node by node
abbrev pub NodesCut : Region → List NodeData → List NodeData → Type 0
NodesCut near [] [] = Unit {0}
NodesCut near (n ∷ ns) (c ∷ cs) = NodeCut near n c × NodesCut near ns cs
NodesCut near ns cs = ⊥

-- the second state is the first one cut
pub record StateCut (near : Region) (old new : State) : Type 0 where
  pub taken : new.taken ≡ old.taken
  pub given : new.given ≡ old.given
  pub times : new.times.items ≡ old.times.items
  pub nodes : NodesCut near old.nodes.items new.nodes.items
