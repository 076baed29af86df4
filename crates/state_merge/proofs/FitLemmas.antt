-- States that stand for one log fit.
use Rattle.std.proofs.Common.{◌≡◌, ℕ, ◌+◌, Bool, true, false, cond, List, [], ◌∷◌, length, refl, sym, ◌∙◌, arith}
use Rattle.std.specs.List.{AllByRecursion}
use Rattle.mfotl_model.specs.{Exact.AllExact, Exact.View, Formulas.Form, Tables.TableOf}
use Rattle.mfotl_model.specs.Regions.{Region, in_both, near_of}
use Rattle.mfotl_model.specs.declared.{interval.Interval.Interval, value.Value.Value}
use Rattle.core_arranging.specs.Windows.{left_operand}
use Rattle.eval_bool.specs.BoolData.{kept_tables}
use Rattle.eval_bool.specs.declared.recalled.JoinData.{JoinData}
use Rattle.eval_since.proofs.RestoredLemmas.{each_ascends as times_rise}
use Rattle.until_rows.specs.declared.{recalled.KeptMarks.KeptMarks, recalled.Mark.Mark}
use Rattle.monitorable.specs.CoreForms.{CoreForm, meaning, Not, And, Or, Previous, Next, Since, Until}
use Rattle.relations.proofs.KeptLemmas.{each_kept}
use Rattle.monitor_state.proofs.{MarkLemmas.entries_are}
use Rattle.monitor_state.proofs.OperandLemmas.{bare_filters, bare_joins, filters_alone}
use Rattle.monitor_nodes.specs.Operands.{operands}
use Rattle.monitor_state.specs.Nodes.{nodes_of}
use Rattle.monitor_state.specs.Pieces.{PieceStands, near_some, view_of}
use Rattle.monitor_state.specs.StateLaws.{seen_in}
use Rattle.monitor_state.specs.StateRules.{NodeKeeps, NodesKeep, SinceKeeps, UntilKeeps, WindowKeeps}
use Rattle.monitor_state.specs.StateStands.{JoinDataStands, NodeDataStands, NodesDataStand, TablesStand}
use Rattle.monitor_state.specs.StateStands.{WindowDataStands, marks_kept}
use Rattle.monitor_state.specs.StateTimes.{KeptTimes, times_from, times_of}
use Rattle.monitor_state.specs.declared.{state.NodeData.NodeData, state.SinceKept.SinceKept, state.UntilKept.UntilKept}
use Rattle.monitor_state.specs.declared.{state.WindowData.WindowData}
use Rattle.monitor_state.specs.declared.state.NodeData.TheVariants as kept
use Rattle.monitor_state.specs.declared.state.WindowData.TheVariants as window
use Rattle.state_merge.proofs.UntilRows.{marks_places, same_keys}
use Rattle.state_merge.specs.{Fitting.PiecesFit, Fitting.StatesFit, Pairs.MarksAscend}
use Rattle.state_merge.specs.Fits.{AllAlike, ListsFit, NodesAlike, SinceOrdered, TablesFit, UntilOrdered, WindowsFit}

-- ---- tables

module _ (view : View) (r q : Region) where
  tables_fit : (f : Form) (i j : ℕ) (xs ys : List TableOf) → AllExact (seen_in view r) f i xs
      → AllExact (seen_in view q) f j ys → length xs ≡ length ys → TablesFit xs ys
  tables_fit f i j [] [] ex ey size = tt
  tables_fit f i j (x ∷ xs) (y ∷ ys) ex ey size =
      (ex.0.columns ∙ sym ey.0.columns, tables_fit f (i + 1) (j + 1) xs ys ex.1 ey.1 (omega arith))
  tables_fit f i j xs ys ex ey size = absurd (omega arith)

  lists_fit : (p : ℕ) (fs : List CoreForm) (xs ys : List (List TableOf)) → TablesStand (seen_in view r) p fs xs
      → TablesStand (seen_in view q) p fs ys → ListsFit xs ys
  lists_fit p [] [] [] sx sy = tt
  lists_fit p (f ∷ fs) (x ∷ xs) (y ∷ ys) sx sy =
      (tables_fit (meaning f) p p x y sx.1 sy.1 (omega (arith, sx.0, sy.0)), lists_fit p fs xs ys sx.2 sy.2)
  lists_fit p fs xs ys sx sy = absurd assumption

-- ---- rows in order

since_ordered : (k : KeptTimes) (i : Interval) (f g : CoreForm) (s : SinceKept) → SinceKeeps k i f g s
    → SinceOrdered s.kept
since_ordered k i f g s keeps =
    record { rows = keeps.rule.rows; times = times_rise _ _ s.kept.rows.items keeps.rule.each }

each_ascends : (rows : List KeptMarks) → AllByRecursion (λ (e : List Value
    × List Mark). MarksAscend e.1) (marks_kept rows)
    → AllByRecursion (λ (k : KeptMarks). MarksAscend k.marks.items) rows
each_ascends [] all = tt
each_ascends (k ∷ ks) all = (all.0, each_ascends ks all.1)

until_ordered : (k : KeptTimes) (i : Interval) (f g : CoreForm) (s : UntilKept) → UntilKeeps k i f g s
    → UntilOrdered s.kept
until_ordered k i f g s keeps =
    let next = times_from k s.kept.pulled in
    let rows = s.kept.rows.items in
    let up = rw (same_keys s.kept.pulled next rows) at keeps.rule.rows in
    record {
      starts = keeps.rule.starts;
      rows = up;
      marks = each_ascends rows (each_kept (λ (u : List Value) (ms : List Mark). MarksAscend ms) (marks_kept rows) up
          (λ u ms is. marks_places s.kept.pulled next ms
          (rw (entries_are s.kept.pulled next u rows, is) at (keeps.rule.ascend u))));
    }

-- ---- nodes

module _ (view : View) (r q : Region) (k l : KeptTimes) where
  windows_fit : (p : ℕ) (f : CoreForm) (a b : WindowData) → WindowKeeps k f a → WindowDataStands (seen_in view r) p f a
      → WindowKeeps l f b → WindowDataStands (seen_in view q) p f b → WindowsFit a b
  windows_fit p (Since i f g) (window.Since a) (window.Since b) ka sa kb sb =
      let same : b.kept.pulled ≡ a.kept.pulled = sb.pulled ∙ sym sa.pulled in
      record {
        lefts = tables_fit view r q _ _ _ _ _ sa.lefts sb.lefts (omega (arith, sa.left_pushed, sb.left_pushed));
        rights = tables_fit view r q _ _ _ _ _ sa.rights sb.rights (omega (arith, sa.right_pushed, sb.right_pushed));
        first = since_ordered k i f g a ka;
        second = since_ordered l i f g b kb;
      }
  windows_fit p (Until i f g) (window.Until a) (window.Until b) ka sa kb sb =
      let same : b.kept.taken ≡ a.kept.taken = sb.taken ∙ sym sa.taken in
      record {
        lefts = tables_fit view r q _ _ _ _ _ sa.lefts sb.lefts (omega (arith, sa.left_pushed, sb.left_pushed));
        rights = tables_fit view r q _ _ _ _ _ sa.rights sb.rights (omega (arith, sa.right_pushed, sb.right_pushed));
        first = until_ordered k i f g a ka;
        second = until_ordered l i f g b kb;
      }
  windows_fit p f a b ka sa kb sb = absurd assumption

  join_fit : (f : CoreForm) (a b : JoinData) → JoinDataStands (seen_in view r) f a
      → JoinDataStands (seen_in view q) f b → ListsFit (kept_tables a) (kept_tables b)
  join_fit f a b sa sb =
      lists_fit view r q a.pulled (operands f) (kept_tables a) (kept_tables b) sa.children
      (rw (sb.pulled ∙ sym sa.pulled) at sb.children)

  next_size : (p m n e : ℕ) (s t : Bool) → cond s (p + 1 + m) 0 ≡ e → cond t (p + 1 + n) 0 ≡ e
      → (s ≡ false → (p ≡ 0) × (m ≡ 0)) → (t ≡ false → (p ≡ 0) × (n ≡ 0)) → m ≡ n
  next_size p m n e true true one two bare other = omega arith
  next_size p m n e false false one two bare other = (bare refl).1 ∙ sym (other refl).1
  next_size p m n e s t one two bare other = absurd (omega arith)

  node_fit : (f : CoreForm) (a b : NodeData) → NodeKeeps k f a → NodeDataStands (seen_in view r) f a
      → NodeKeeps l f b → NodeDataStands (seen_in view q) f b → NodesAlike a b
  node_fit (Not f) (kept.Join a) (kept.Join b) ka sa kb sb = join_fit (Not f) a b sa sb
  node_fit (Not f) kept.Bare (kept.Join b) ka sa kb sb = absurd (bare_joins (Not f) kb.some kb.whole ka)
  node_fit (Not f) (kept.Join a) kept.Bare ka sa kb sb = absurd (bare_joins (Not f) ka.some ka.whole kb)
  node_fit (And f g) (kept.Join a) (kept.Join b) ka sa kb sb = join_fit (And f g) a b sa sb
  node_fit (And f g) kept.Bare (kept.Join b) ka sa kb sb = absurd (bare_joins (And f g) kb.some kb.whole ka)
  node_fit (And f g) (kept.Join a) kept.Bare ka sa kb sb = absurd (bare_joins (And f g) ka.some ka.whole kb)
  node_fit (And f g) kept.Bare (kept.Filter ys b) ka sa kb sb = absurd (bare_filters f g kb.0 ka)
  node_fit (And f g) (kept.Filter xs a) kept.Bare ka sa kb sb = absurd (bare_filters f g ka.0 kb)
  node_fit (And f g) (kept.Join a) (kept.Filter ys b) ka sa kb sb = absurd (filters_alone f g kb.0 ka.whole)
  node_fit (And f g) (kept.Filter xs a) (kept.Join b) ka sa kb sb = absurd (filters_alone f g ka.0 kb.whole)
  node_fit f kept.Bare kept.Bare ka sa kb sb = tt
  node_fit (Or f g) (kept.Or a) (kept.Or b) ka sa kb sb =
      let same : b.pulled ≡ a.pulled = sb.pulled ∙ sym sa.pulled in (
        tables_fit view r q _ _ _ _ _ sa.lefts sb.lefts (omega (arith, sa.left_pushed, sb.left_pushed)),
        tables_fit view r q _ _ _ _ _ sa.rights sb.rights (omega (arith, sa.right_pushed, sb.right_pushed)),
      )
  node_fit (Previous i f) (kept.Previous a) (kept.Previous b) ka sa kb sb =
      let same : b.pulled ≡ a.pulled = sb.pulled ∙ sym sa.pulled in
      tables_fit view r q _ _ _ _ _ sa.tables sb.tables (omega (arith, sa.pushed, sb.pushed))
  node_fit (Next i f) (kept.Next a) (kept.Next b) ka sa kb sb =
      let same : b.pulled ≡ a.pulled = sb.pulled ∙ sym sa.pulled in
      tables_fit view r q _ _ _ _ _ sa.tables sb.tables
      (next_size a.pulled _ _ _ a.started b.started sa.pushed (rw same at sb.pushed) sa.bare (rw same at sb.bare))
  node_fit (Since i f g) (kept.Window a) (kept.Window b) ka sa kb sb = windows_fit _ (Since i f g) a b ka sa kb sb
  node_fit (Until i f g) (kept.Window a) (kept.Window b) ka sa kb sb = windows_fit _ (Until i f g) a b ka sa kb sb
  node_fit (And f g) (kept.Filter xs a) (kept.Filter ys b) ka sa kb sb = (
    tables_fit view r q _ _ _ _ _ sa.exact sb.exact (omega (arith, sa.pushed, sb.pushed)),
    windows_fit _ (left_operand g) a b ka.2 sa.behind kb.2 sb.behind,
  )
  node_fit f a b ka sa kb sb = absurd assumption

  nodes_fit : (fs : List CoreForm) (xs ys : List NodeData) → NodesKeep k fs xs → NodesDataStand (seen_in view r) fs xs
      → NodesKeep l fs ys → NodesDataStand (seen_in view q) fs ys → AllAlike xs ys
  nodes_fit [] [] [] kx sx ky sy = tt
  nodes_fit (f ∷ fs) (x ∷ xs) (y ∷ ys) kx sx ky sy =
      (node_fit f x y kx.0 sx.0 ky.0 sy.0, nodes_fit fs xs ys kx.1 sx.1 ky.1 sy.1)
  nodes_fit fs xs ys kx sx ky sy = absurd assumption

pub states_fit : StatesFit
states_fit view core r q a b ha hb =
    nodes_fit view r q (times_of a) (times_of b) (nodes_of core) a.nodes.items b.nodes.items ha.rule ha.stands.nodes
    hb.rule hb.stands.nodes

pub pieces_fit : PiecesFit
unfolding PieceStands
pieces_fit core s s2 k2 log [] k state piece merged stands = absurd cc
pieces_fit core s s2 k2 log (j ∷ ks) k state piece (old, is, inside) stands =
    let same : old ≡ state = cc in
    states_fit (view_of core (near_of s2 k2) log) core (in_both (near_some s (j ∷ ks)) (near_of s2 k2))
    (in_both (near_of s k) (near_of s2 k2)) state piece.state (rw same at inside) stands
