-- The data of nodes united stands for both regions, has nothing outside them, and keeps its rule.
use Rattle.std.proofs.Common.{◌≡◌, ℕ, ◌+◌, ◌-◌, ◌||◌, List, [], ◌∷◌, map, refl, sym, ap, ◌∙◌, arith}
use Rattle.std.specs.{List.AllByRecursion, Prelude.min}
use Rattle.mfotl_model.specs.{Exact.View, Regions.Region, Satisfaction.Valuation}
use Rattle.core_arranging.specs.{Windows.left_operand}
use Rattle.eval_bool.specs.{BoolData.kept_tables, JoinView.children_of}
use Rattle.eval_bool.specs.declared.recalled.JoinData.{JoinData}
use Rattle.monitorable.specs.Conjuncts.{conjuncts_of}
use Rattle.monitorable.specs.CoreForms.{CoreForm, meaning, Not, And, Or, Previous, Next, Since, Until}
use Rattle.monitor_nodes.specs.{Operands.operands, Stands.conjunct_as}
use Rattle.monitor_state.specs.{StateLaws.seen_in}
use Rattle.monitor_state.specs.StateInside.{NodeInside, TablesInside, WindowInside}
use Rattle.monitor_state.specs.StateRules.{JoinKeeps, NodeKeeps, NodesKeep, WindowKeeps}
use Rattle.monitor_state.specs.StateStands.{JoinDataStands, NodeDataStands, NodesDataStand, WindowDataStands}
use Rattle.monitor_state.specs.StateTimes.{KeptTimes, earliest, node_asks, window_asks}
use Rattle.monitor_state.specs.StateUnions.{JoinUnion, NodeUnion, NodesUnion, WindowUnion}
use Rattle.monitor_state.specs.declared.{state.NodeData.NodeData, state.WindowData.WindowData}
use Rattle.monitor_state.specs.declared.state.NodeData.TheVariants as kept
use Rattle.monitor_state.specs.declared.state.WindowData.TheVariants as window
use Rattle.state_merge.proofs.{SinceUnited.since_united, UntilUnited.until_united}
use Rattle.state_merge.proofs.TablesUnited.{lists_rule, lists_union, over_union, tables_at, tables_union, union_length}

-- ---- the places that are asked for

window_same : (a b c : WindowData) → WindowUnion a b c → window_asks c ≡ window_asks a
window_same a b c u = grind arith

node_same : (given : ℕ) (a b c : NodeData) → NodeUnion a b c → node_asks given c ≡ node_asks given a
node_same given a b c u = grind arith

-- united nodes ask for the same timestamps
pub earliest_same : (given : ℕ) (xs ys zs : List NodeData) → NodesUnion xs ys zs → earliest given zs ≡ earliest given xs
earliest_same given [] [] [] u = refl
earliest_same given (x ∷ xs) (y ∷ ys) (z ∷ zs) u =
    cc (node_same given x y z u.0, earliest_same (min given (node_asks given x)) xs ys zs u.1)
earliest_same given xs ys zs u = absurd u

-- ---- all nodes

module _ (view : View) (r q all : Region) (union : (vs : List ℕ) (v : Valuation) → all vs v ≡ (r vs v || q vs v))
    (k : KeptTimes) where
  -- what is known of two windows, or nodes, and to be shown of what unites them
  abbrev WindowStays : Region → ℕ → CoreForm → WindowData → Type 0
  WindowStays near p f w = WindowKeeps k f w × WindowDataStands (seen_in view near) p f w × WindowInside near w

  abbrev Stays : Region → CoreForm → NodeData → Type 0
  Stays near f n = NodeKeeps k f n × NodeDataStands (seen_in view near) f n × NodeInside near n

  window_union : (p : ℕ) (f : CoreForm) (a b c : WindowData) → WindowStays r p f a → WindowStays q p f b
      → WindowUnion a b c → WindowStays all p f c
  window_union p (Since i f g) (window.Since a) (window.Since b) (window.Since c) (ka, sa, ia) (kb, sb, ib) u =
      since_united view r q all union k p i f g a b c ka sa ia kb sb ib u
  window_union p (Until i f g) (window.Until a) (window.Until b) (window.Until c) (ka, sa, ia) (kb, sb, ib) u =
      until_united view r q all union k p i f g a b c ka sa ia kb sb ib u
  window_union p f a b c (ka, sa, ia) (kb, sb, ib) u = absurd assumption

  join_union : (f : CoreForm) (a b c : JoinData) → JoinKeeps f a → JoinDataStands (seen_in view r) f a
      → AllByRecursion (TablesInside r) (kept_tables a) → JoinDataStands (seen_in view q) f b
      → AllByRecursion (TablesInside q) (kept_tables b) → JoinUnion a b c
      → JoinKeeps f c × JoinDataStands (seen_in view all) f c × AllByRecursion (TablesInside all) (kept_tables c)
  join_union f a b c ka sa ia sb ib u =
      let same : b.pulled ≡ a.pulled = sb.pulled ∙ sym sa.pulled in
      let rule = lists_rule a.pulled (children_of (map conjunct_as (conjuncts_of f))) (kept_tables a) (kept_tables b)
      (kept_tables c) ka.rule.over ka.rule.few u.tables in
      let both = lists_union view r q all union a.pulled (operands f) (kept_tables a) (kept_tables b) (kept_tables c)
      sa.children ia (rw same at sb.children) ib u.tables in (
        record { some = ka.some; whole = ka.whole; rule = record { over = rule.0; few = rw u.pulled rule.1 } },
        record { pulled = u.pulled ∙ sa.pulled; children = rw u.pulled both.0 },
        both.1,
      )

  node_union : (f : CoreForm) (a b c : NodeData) → Stays r f a → Stays q f b → NodeUnion a b c → Stays all f c
  node_union f kept.Bare kept.Bare kept.Bare x y u = (x.0, tt, tt)
  node_union (Not f) (kept.Join a) (kept.Join b) (kept.Join c) x y u = join_union (Not f) a b c x.0 x.1 x.2 y.1 y.2 u
  node_union (And f g) (kept.Join a) (kept.Join b) (kept.Join c) x y u =
      join_union (And f g) a b c x.0 x.1 x.2 y.1 y.2 u
  node_union (Or f g) (kept.Or a) (kept.Or b) (kept.Or c) x y u =
      let same : b.pulled ≡ a.pulled = y.1.pulled ∙ sym x.1.pulled in
      let lefts = tables_at view r q all union _ _ _ _ _ _ _ same u.pulled x.1.lefts x.2.0 y.1.lefts y.2.0 u.lefts in
      let rights = tables_at view r q all union _ _ _ _ _ _ _ same u.pulled x.1.rights x.2.1 y.1.rights y.2.1
      u.rights in
      let low = union_length a.lefts.items b.lefts.items c.lefts.items u.lefts in
      let high = union_length a.rights.items b.rights.items c.rights.items u.rights in (
        record {
          few = rw (u.pulled, low) x.0.few;
          lefts = over_union _ _ _ _ x.0.lefts u.lefts;
          rights = over_union _ _ _ _ x.0.rights u.rights;
        },
        record {
          pulled = u.pulled ∙ x.1.pulled;
          left_pushed = rw (u.pulled, low) x.1.left_pushed;
          right_pushed = rw (u.pulled, high) x.1.right_pushed;
          lefts = lefts.0;
          rights = rights.0;
        },
        (lefts.1, rights.1),
      )
  node_union (Previous i f) (kept.Previous a) (kept.Previous b) (kept.Previous c) x y u =
      let before = ap (λ n. n - 1) (y.1.pulled ∙ sym x.1.pulled) in
      let more = union_length a.tables.items b.tables.items c.tables.items u.tables in
      let tables = tables_at view r q all union _ _ _ _ _ _ _ before (ap (λ n. n - 1) u.pulled) x.1.tables x.2
      y.1.tables y.2 u.tables in (
        record { few = rw u.pulled x.0.few; over = over_union _ _ _ _ x.0.over u.tables },
        record {
          pulled = u.pulled ∙ x.1.pulled;
          pushed = rw (u.pulled, more) x.1.pushed;
          tables = tables.0;
        },
        tables.1,
      )
  node_union (Next i f) (kept.Next a) (kept.Next b) (kept.Next c) x y u =
      let behind = ap (λ n. n + 1) (y.1.pulled ∙ sym x.1.pulled) in
      let more = union_length a.tables.items b.tables.items c.tables.items u.tables in
      let tables = tables_at view r q all union _ _ _ _ _ _ _ behind (ap (λ n. n + 1) u.pulled) x.1.tables x.2
      y.1.tables y.2 u.tables in (
        record { few = rw u.pulled x.0.few; over = over_union _ _ _ _ x.0.over u.tables },
        record {
          pulled = u.pulled ∙ x.1.pulled;
          pushed = rw (u.started, u.pulled, more) x.1.pushed;
          bare = rw (u.started, u.pulled, more) x.1.bare;
          tables = tables.0;
        },
        tables.1,
      )
  node_union (Since i f g) (kept.Window a) (kept.Window b) (kept.Window c) x y u =
      window_union _ (Since i f g) a b c x y u
  node_union (Until i f g) (kept.Window a) (kept.Window b) (kept.Window c) x y u =
      window_union _ (Until i f g) a b c x y u
  node_union (And f g) (kept.Filter xs a) (kept.Filter ys b) (kept.Filter zs c) x y u =
      let behind = window_union _ (left_operand g) a b c (x.0.2, x.1.behind, x.2.1) (y.0.2, y.1.behind, y.2.1) u.1 in
      let tables = tables_union view r q all union (meaning f) _ xs.items ys.items zs.items x.1.exact x.2.0 y.1.exact
      y.2.0 u.0 in (
        (x.0.0, over_union _ _ _ _ x.0.1 u.0, behind.0),
        record {
          pushed = rw (union_length _ _ _ u.0) x.1.pushed;
          exact = tables.0;
          behind = behind.1;
        },
        (tables.1, behind.2),
      )
  node_union f a b c (ka, sa, ia) (kb, sb, ib) u = absurd assumption

  pub nodes_union : (fs : List CoreForm) (xs ys zs : List NodeData) → NodesKeep k fs xs
      → NodesDataStand (seen_in view r) fs xs → AllByRecursion (NodeInside r) xs → NodesKeep k fs ys
      → NodesDataStand (seen_in view q) fs ys → AllByRecursion (NodeInside q) ys → NodesUnion xs ys zs
      → NodesKeep k fs zs × NodesDataStand (seen_in view all) fs zs × AllByRecursion (NodeInside all) zs
  nodes_union [] [] [] [] kx sx ix ky sy iy u = (tt, tt, tt)
  nodes_union (f ∷ fs) (x ∷ xs) (y ∷ ys) (z ∷ zs) kx sx ix ky sy iy u =
      let first = node_union f x y z (kx.0, sx.0, ix.0) (ky.0, sy.0, iy.0) u.0 in
      let rest = nodes_union fs xs ys zs kx.1 sx.1 ix.1 ky.1 sy.1 iy.1 u.1 in
      ((first.0, rest.0), (first.1, rest.1), (first.2, rest.2))
  nodes_union fs xs ys zs kx sx ix ky sy iy u = absurd assumption
