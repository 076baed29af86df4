-- Nodes cut to a region: they keep their rule, stand for the region, and have nothing outside it.
use Rattle.std.proofs.Common.{◌≡◌, ℕ, ◌+◌, ◌-◌, List, [], ◌∷◌, length, map, refl, ap, ◌∙◌, arith}
use Rattle.std.specs.List.{AllByRecursion}
use Rattle.mfotl_model.specs.{Exact.View, Regions.Passes}
use Rattle.core_arranging.specs.{Windows.left_operand}
use Rattle.eval_bool.specs.{BoolData.kept_tables, JoinView.children_of}
use Rattle.eval_bool.specs.declared.recalled.JoinData.{JoinData}
use Rattle.monitorable.specs.Conjuncts.{conjuncts_of}
use Rattle.monitorable.specs.CoreForms.{CoreForm, Not, And, Or, Previous, Next, Since, Until}
use Rattle.monitor_nodes.specs.{Operands.operands, Stands.conjunct_as}
use Rattle.monitor_state.specs.{StateTimes.KeptTimes}
use Rattle.monitor_state.specs.StateCuts.{JoinCut, NodeCut, NodesCut, WindowCut}
use Rattle.monitor_state.specs.StateInside.{NodeInside, TablesInside, WindowInside}
use Rattle.monitor_state.specs.StateRules.{JoinKeeps, NodeKeeps, NodesKeep, WindowKeeps}
use Rattle.monitor_state.specs.StateStands.{JoinDataStands, NodeDataStands, NodesDataStand, WindowDataStands}
use Rattle.monitor_state.specs.declared.{state.NodeData.NodeData, state.WindowData.WindowData}
use Rattle.monitor_state.specs.declared.state.NodeData.TheVariants as kept
use Rattle.monitor_state.specs.declared.state.WindowData.TheVariants as window
use Rattle.state_split.proofs.{SinceCuts.since_cut, UntilCuts.until_cut}
use Rattle.state_split.proofs.TableCuts.{length_cut, lists_inside, lists_rule, lists_stand, over_cut, pushed_cut}
use Rattle.state_split.proofs.TableCuts.{tables_exact, tables_inside}

module _ (view : View) (free : List ℕ) (passes : Passes free view.near) (k : KeptTimes) where
  -- what is to be shown of a window's cut, and of a node's
  abbrev WindowStays : ℕ → CoreForm → WindowData → Type 0
  WindowStays p f w = WindowKeeps k f w × WindowDataStands view p f w × WindowInside view.near w

  abbrev Stays : CoreForm → NodeData → Type 0
  Stays f n = NodeKeeps k f n × NodeDataStands view f n × NodeInside view.near n

  window_cut : (p : ℕ) (f : CoreForm) (w c : WindowData) → WindowCut view.near w c → WindowKeeps k f w
      → WindowDataStands view p f w → WindowStays p f c
  window_cut p (Since i f g) (window.Since s) (window.Since c) cut keeps stands =
      since_cut view free passes k i f g s c cut keeps p stands
  window_cut p (Until i f g) (window.Until s) (window.Until c) cut keeps stands =
      until_cut view free passes k i f g s c cut keeps p stands
  window_cut p f w c cut keeps stands = absurd assumption

  join_cut : (f : CoreForm) (s c : JoinData) → JoinCut view.near s c → JoinKeeps f s → JoinDataStands view f s
      → JoinKeeps f c × JoinDataStands view f c × AllByRecursion (TablesInside view.near) (kept_tables c)
  join_cut f s c cut keeps stands =
      let rule = lists_rule view.near s.pulled (children_of (map conjunct_as (conjuncts_of f))) (kept_tables s)
      keeps.rule.over keeps.rule.few in (
        record {
          some = keeps.some;
          whole = keeps.whole;
          rule = record { over = rw cut.tables rule.0; few = rw (cut.pulled, cut.tables) rule.1 };
        },
        record {
          pulled = cut.pulled ∙ stands.pulled;
          children = rw (cut.pulled, cut.tables)
              (lists_stand view free passes s.pulled (operands f) (kept_tables s) stands.children);
        },
        rw cut.tables (lists_inside view free passes (kept_tables s)),
      )

  pub node_cut : (f : CoreForm) (n c : NodeData) → NodeCut view.near n c → NodeKeeps k f n → NodeDataStands view f n
      → Stays f c
  node_cut f kept.Bare kept.Bare cut keeps stands = (keeps, stands, tt)
  node_cut (Not f) (kept.Join s) (kept.Join c) cut keeps stands = join_cut (Not f) s c cut keeps stands
  node_cut (And f g) (kept.Join s) (kept.Join c) cut keeps stands = join_cut (And f g) s c cut keeps stands
  node_cut (Or f g) (kept.Or s) (kept.Or c) cut keeps stands = (
    record {
      few = rw (pushed_cut view.near _ _ _ s.lefts.items c.lefts.items cut.pulled cut.lefts refl) keeps.few;
      lefts = over_cut view.near _ _ _ cut.lefts keeps.lefts;
      rights = over_cut view.near _ _ _ cut.rights keeps.rights;
    },
    record {
      pulled = cut.pulled ∙ stands.pulled;
      left_pushed = pushed_cut view.near _ _ _ _ _ cut.pulled cut.lefts stands.left_pushed;
      right_pushed = pushed_cut view.near _ _ _ _ _ cut.pulled cut.rights stands.right_pushed;
      lefts = tables_exact view free passes _ _ _ _ _ cut.pulled cut.lefts stands.lefts;
      rights = tables_exact view free passes _ _ _ _ _ cut.pulled cut.rights stands.rights;
    },
    (tables_inside view free passes _ _ cut.lefts, tables_inside view free passes _ _ cut.rights),
  )
  node_cut (Previous i f) (kept.Previous s) (kept.Previous c) cut keeps stands =
      let before : c.pulled - 1 ≡ s.pulled - 1 = ap (λ n. n - 1) cut.pulled in (
        record { few = rw cut.pulled keeps.few; over = over_cut view.near _ _ _ cut.tables keeps.over },
        record {
          pulled = cut.pulled ∙ stands.pulled;
          pushed = pushed_cut view.near _ _ _ _ _ before cut.tables stands.pushed;
          tables = tables_exact view free passes _ _ _ _ _ before cut.tables stands.tables;
        },
        tables_inside view free passes _ _ cut.tables,
      )
  node_cut (Next i f) (kept.Next s) (kept.Next c) cut keeps stands =
      let long : length c.tables.items ≡ length s.tables.items = length_cut view.near _ _ cut.tables in
      let behind : c.pulled + 1 ≡ s.pulled + 1 = ap (λ n. n + 1) cut.pulled in (
        record { few = rw cut.pulled keeps.few; over = over_cut view.near _ _ _ cut.tables keeps.over },
        record {
          pulled = cut.pulled ∙ stands.pulled;
          pushed = rw (cut.started, cut.pulled, long) stands.pushed;
          bare = rw (cut.started, cut.pulled, long) stands.bare;
          tables = tables_exact view free passes _ _ _ _ _ behind cut.tables stands.tables;
        },
        tables_inside view free passes _ _ cut.tables,
      )
  node_cut (Since i f g) (kept.Window w) (kept.Window c) cut keeps stands =
      window_cut _ (Since i f g) w c cut keeps stands
  node_cut (Until i f g) (kept.Window w) (kept.Window c) cut keeps stands =
      window_cut _ (Until i f g) w c cut keeps stands
  node_cut (And f g) (kept.Filter ts w) (kept.Filter cs c) cut keeps stands =
      let behind = window_cut _ (left_operand g) w c cut.1 keeps.2 stands.behind in (
        (keeps.0, over_cut view.near _ _ _ cut.0 keeps.1, behind.0),
        record {
          pushed = pushed_cut view.near _ _ _ _ _ refl cut.0 stands.pushed;
          exact = tables_exact view free passes _ _ _ _ _ refl cut.0 stands.exact;
          behind = behind.1;
        },
        (tables_inside view free passes _ _ cut.0, behind.2),
      )
  node_cut f n c cut keeps stands = absurd assumption

  pub nodes_cut : (fs : List CoreForm) (ns cs : List NodeData) → NodesCut view.near ns cs → NodesKeep k fs ns
      → NodesDataStand view fs ns
      → NodesKeep k fs cs × NodesDataStand view fs cs × AllByRecursion (NodeInside view.near) cs
  nodes_cut [] [] [] cut keeps stands = (tt, tt, tt)
  nodes_cut (f ∷ fs) (n ∷ ns) (c ∷ cs) cut keeps stands =
      grind (arith, node_cut f n c cut.0 keeps.0 stands.0, nodes_cut fs ns cs cut.1 keeps.1 stands.1)
  nodes_cut fs ns cs cut keeps stands = absurd assumption
