-- When a state as plain data stands for a log, in a region of rows. What is kept for a row is found by the row
-- alone, and everything is said at the columns of the row: nothing here needs that near passes to parts of a row.
use Rattle.std.specs.Prelude.{◌≡◌, ℕ, ◌+◌, ◌-◌, ◌<◌, ◌≤◌, Bool, true, false, ◌&&◌, cond, min, nat_le, List, [], ◌∷◌}
use Rattle.std.specs.Prelude.{length, map, drop}
use Rattle.std.specs.List.{list_any}
use Rattle.mfotl_model.specs.Exact.{AllExact, Covers, View}
use Rattle.mfotl_model.specs.FreeVariables.{fv}
use Rattle.mfotl_model.specs.Intervals.{in_interval}
use Rattle.mfotl_model.specs.Log.{times}
use Rattle.mfotl_model.specs.Satisfaction.{Valuation, time_at}
use Rattle.mfotl_model.specs.Tables.{TableOf}
use Rattle.mfotl_model.specs.declared.interval.Interval.{Interval}
use Rattle.mfotl_model.specs.declared.value.Value.{Value}
use Rattle.core_arranging.specs.Windows.{left_operand}
use Rattle.eval_bool.specs.BoolData.{kept_tables}
use Rattle.eval_bool.specs.declared.recalled.JoinData.{JoinData}
use Rattle.eval_bool.specs.declared.recalled.OrData.{OrData}
use Rattle.row_times.specs.KeptTimes.{times_for}
use Rattle.eval_since.specs.SinceBefore.{since_before}
use Rattle.row_times.specs.Times.{reaches}
use Rattle.eval_since.specs.declared.recalled.PrevData.{PrevData}
use Rattle.eval_since.specs.declared.recalled.SinceData.{SinceData}
use Rattle.until_rows.specs.Recalled.{starts_kept}
use Rattle.until_rows.specs.Starts.{start_of}
use Rattle.eval_until.specs.UntilBefore.{start, until_before}
use Rattle.until_rows.specs.declared.recalled.KeptMarks.{KeptMarks}
use Rattle.until_rows.specs.declared.recalled.Mark.{Mark}
use Rattle.eval_until.specs.declared.recalled.NextData.{NextData}
use Rattle.eval_until.specs.declared.recalled.UntilData.{UntilData}
use Rattle.monitorable.specs.CoreForms.{CoreForm, meaning, Not, And, Or, Previous, Next, Since, Until}
use Rattle.relations.specs.KeptRows.{list_for}
use Rattle.monitor_nodes.specs.Operands.{is_negated, operands}
use Rattle.monitor_state.specs.Nodes.{nodes_of}
use Rattle.monitor_state.specs.StateTimes.{earliest}
use Rattle.monitor_nodes.specs.Views.{Dates, Tells, reached}
use Rattle.monitor_state.specs.declared.state.NodeData.{NodeData}
use Rattle.monitor_state.specs.declared.state.NodeData.TheVariants as kept
use Rattle.monitor_state.specs.declared.state.State.{State}
use Rattle.monitor_state.specs.declared.state.WindowData.{WindowData}
use Rattle.monitor_state.specs.declared.state.WindowData.TheVariants as window

-- the rows with their marks, as pairs
abbrev pub marks_kept : List KeptMarks → List (List Value × List Mark)
marks_kept rows = map (λ k. (k.row, k.marks.items)) rows

-- the marks that are kept for a row
abbrev pub marks_for : List KeptMarks → List Value → List Mark
marks_for rows u = list_for (marks_kept rows) u

-- whether a mark meets UNTIL at the position j, where the timestamps are t
abbrev pub mark_meets : Interval → List ℕ → ℕ → Mark → Bool
mark_meets i t j m = nat_le m.start j && nat_le j m.place && in_interval i (time_at t m.place - time_at t j)

-- The data of a SINCE stands for the log with p positions pulled: the operands' tables are exact, and what is kept
-- for each near row tells SINCE as far as the positions pulled decide it.
pub record SinceDataStands (view : View) (p : ℕ) (i : Interval) (f g : CoreForm) (s : SinceData) : Type 0 where
  pub pulled : s.pulled ≡ p
  pub left_pushed : s.pulled + length s.lefts.items ≡ reached view f
  pub right_pushed : s.pulled + length s.rights.items ≡ reached view g
  pub lefts : AllExact view (meaning (left_operand f)) s.pulled s.lefts.items
  pub rights : AllExact view (meaning g) s.pulled s.rights.items
  pub window : (dom : List Value) (v : Valuation) → Covers view dom → view.near (fv (meaning g)) v ≡ true
      → (t : List ℕ) (a b : List Bool) → Dates view t → Tells view dom v f a → Tells view dom v g b
      → (x : ℕ) → (0 < s.pulled → time_at t (s.pulled - 1) ≤ x)
      → reaches i (times_for s.rows.items (map v (fv (meaning g)))) x ≡ since_before i t a b s.pulled x

-- The data of an UNTIL stands for the log with p positions pulled: it took the operands' tables as far as both are
-- settled, the others are exact; the start kept for each near row of the left operand tells from where on that one
-- has held, and the marks of each near row of the right one tell UNTIL as far as the positions taken decide it.
pub record UntilDataStands (view : View) (p : ℕ) (i : Interval) (f g : CoreForm) (s : UntilData) : Type 0 where
  pub pulled : s.pulled ≡ p
  pub taken : s.taken ≡ min (reached view f) (reached view g)
  pub left_pushed : s.taken + length s.lefts.items ≡ reached view f
  pub right_pushed : s.taken + length s.rights.items ≡ reached view g
  pub lefts : AllExact view (meaning (left_operand f)) s.taken s.lefts.items
  pub rights : AllExact view (meaning g) s.taken s.rights.items
  pub runs : (dom : List Value) (v : Valuation) → Covers view dom
      → view.near (fv (meaning (left_operand f))) v ≡ true → (a : List Bool) → Tells view dom v f a
      → (j : ℕ) → s.pulled ≤ j
      → nat_le (start_of (is_negated f) s.taken (starts_kept s.starts.items) (map v (fv (meaning (left_operand f))))) j
      ≡ nat_le (start a s.taken) j
  pub window : (dom : List Value) (v : Valuation) → Covers view dom → view.near (fv (meaning g)) v ≡ true
      → (t : List ℕ) (a b : List Bool) → Dates view t → length view.log ≤ length t → Tells view dom v f a
      → Tells view dom v g b → (j : ℕ) → s.pulled ≤ j
      → list_any (mark_meets i t j) (marks_for s.rows.items (map v (fv (meaning g)))) ≡ until_before i t a b s.taken j

-- the data of a window stands for the log with p positions pulled
abbrev pub WindowDataStands : View → ℕ → CoreForm → WindowData → Type 0
WindowDataStands view p (Since i f g) (window.Since s) = SinceDataStands view p i f g s.kept
WindowDataStands view p (Until i f g) (window.Until s) = UntilDataStands view p i f g s.kept
WindowDataStands view p f other = ⊥

-- child by child: the tables that were not used are kept, and are exact
abbrev pub TablesStand : View → ℕ → List CoreForm → List (List TableOf) → Type 0
TablesStand view p [] [] = Unit {0}
TablesStand view p (f ∷ fs) (ts ∷ tss) =
    (p + length ts ≡ reached view f) × AllExact view (meaning f) p ts × TablesStand view p fs tss
TablesStand view p fs tss = ⊥

-- the data of a conjunction stands for the log
pub record JoinDataStands (view : View) (f : CoreForm) (s : JoinData) : Type 0 where
  pub pulled : s.pulled ≡ reached view f
  pub children : TablesStand view s.pulled (operands f) (kept_tables s)

-- the data of an OR stands for the log
pub record OrDataStands (view : View) (f g : CoreForm) (s : OrData) : Type 0 where
  pub pulled : s.pulled ≡ reached view (Or f g)
  pub left_pushed : s.pulled + length s.lefts.items ≡ reached view f
  pub right_pushed : s.pulled + length s.rights.items ≡ reached view g
  pub lefts : AllExact view (meaning f) s.pulled s.lefts.items
  pub rights : AllExact view (meaning g) s.pulled s.rights.items

-- the data of a PREVIOUS stands for the log
pub record PreviousDataStands (view : View) (i : Interval) (f : CoreForm) (s : PrevData) : Type 0 where
  pub pulled : s.pulled ≡ reached view (Previous i f)
  pub pushed : s.pulled - 1 + length s.tables.items ≡ reached view f
  pub tables : AllExact view (meaning f) (s.pulled - 1) s.tables.items

-- the data of a NEXT stands for the log; the first position's table is never kept
pub record NextDataStands (view : View) (i : Interval) (f : CoreForm) (s : NextData) : Type 0 where
  pub pulled : s.pulled ≡ reached view (Next i f)
  pub pushed : cond s.started (s.pulled + 1 + length s.tables.items) 0 ≡ reached view f
  pub bare : s.started ≡ false → (s.pulled ≡ 0) × (length s.tables.items ≡ 0)
  pub tables : AllExact view (meaning f) (s.pulled + 1) s.tables.items

-- the data of a conjunction whose right side is asked, by rows or by keys, stands for the log
pub record FilterDataStands (view : View) (f g : CoreForm) (tables : List TableOf) (w : WindowData) : Type 0 where
  pub pushed : reached view (And f g) + length tables ≡ reached view f
  pub exact : AllExact view (meaning f) (reached view (And f g)) tables
  pub behind : WindowDataStands view (reached view (And f g)) (left_operand g) w

-- a node's data stands for the log; one without data always does
abbrev pub NodeDataStands : View → CoreForm → NodeData → Type 0
NodeDataStands view f kept.Bare = Unit {0}
NodeDataStands view (Not f) (kept.Join s) = JoinDataStands view (Not f) s
NodeDataStands view (And f g) (kept.Join s) = JoinDataStands view (And f g) s
NodeDataStands view (And f g) (kept.Filter tables w) = FilterDataStands view f g tables.items w
NodeDataStands view (Or f g) (kept.Or s) = OrDataStands view f g s
NodeDataStands view (Previous i f) (kept.Previous s) = PreviousDataStands view i f s
NodeDataStands view (Next i f) (kept.Next s) = NextDataStands view i f s
NodeDataStands view (Since i f g) (kept.Window w) =
    WindowDataStands view (reached view (Since i f g)) (Since i f g) w
NodeDataStands view (Until i f g) (kept.Window w) =
    WindowDataStands view (reached view (Until i f g)) (Until i f g) w
NodeDataStands view f other = ⊥

-- node by node
abbrev pub NodesDataStand : View → List CoreForm → List NodeData → Type 0
NodesDataStand view [] [] = Unit {0}
NodesDataStand view (f ∷ fs) (n ∷ ns) = NodeDataStands view f n × NodesDataStand view fs ns
NodesDataStand view fs ns = ⊥

-- The state stands for the log: the log's time-points were taken and the tables of the core's settled positions
-- given, the timestamps are the log's from the earliest place on that is asked for, and each node's data stands.
pub record StateStands (view : View) (core : CoreForm) (s : State) : Type 0 where
  pub taken : s.taken ≡ length view.log
  pub given : s.given ≡ reached view core
  pub times : s.times.items ≡ drop (earliest s.given s.nodes.items) (times view.log)
  pub nodes : NodesDataStand view (nodes_of core) s.nodes.items
