-- The nodes' data, where the nodes stand for a log.
use Rattle.std.proofs.Common.{◌≡◌, ℕ, ◌≤◌, true, List, [], ◌∷◌, ◌++◌, length, arith}
use Rattle.mfotl_model.specs.{Exact.View, Tables.TableOf}
use Rattle.eval_bool.specs.BoolData.{JoinRule, TablesOver, join_of, with_tables}
use Rattle.eval_bool.specs.JoinView.{ChildOf, JoinOf}
use Rattle.eval_bool.specs.declared.recalled.JoinData.{JoinData}
use Rattle.monitorable.specs.CoreForms.{CoreForm, Not, And, Or, Previous, Next, Since, Until}
use Rattle.monitor_nodes.proofs.{ExactLemmas.reached_within, UntilSteps.until_all_taken}
use Rattle.monitor_state.proofs.{RecordLemmas.since_recorded, RecordLemmas.until_recorded}
use Rattle.monitor_state.specs.Recording.{NodeRecorded, NodesRecorded, WindowRecorded}
use Rattle.monitor_nodes.specs.Stands.{ChildrenStand, IsNodeFor, JoinStands, NodeStands}
use Rattle.monitor_state.specs.Stands.{NodesStand}
use Rattle.monitor_state.specs.StateStands.{JoinDataStands, NodeDataStands, NodesDataStand, TablesStand}
use Rattle.monitor_state.specs.StateStands.{WindowDataStands}
use Rattle.monitor_nodes.specs.Views.{reached}
use Rattle.monitor_nodes.specs.WindowNode.{IsWindow, WindowStands, window_took_all}
use Rattle.monitor_nodes.specs.declared.{node.Node.Node, window.Window.Window}
use Rattle.monitor_state.specs.declared.{state.NodeData.NodeData, state.WindowData.WindowData}
use Rattle.monitor_nodes.specs.declared.node.Node.TheVariants as node
use Rattle.monitor_state.specs.declared.state.NodeData.TheVariants as kept
use Rattle.monitor_state.specs.declared.state.WindowData.TheVariants as data_of
use Rattle.monitor_nodes.specs.declared.window.Window.TheVariants as window

pub window_recorded : (view : View) (p : ℕ) (w : CoreForm) (s : Window) (k : WindowData) → p ≤ length view.log
    → window_took_all s ≡ true → IsWindow w s → WindowStands view p w s → WindowRecorded s k
    → WindowDataStands view p w k
window_recorded view p (Since i f g) (window.Since s) (data_of.Since k) inside all is stands rec =
    since_recorded view p i f g s k is stands rec
window_recorded view p (Until i f g) (window.Until s) (data_of.Until k) inside all is stands rec =
    until_recorded view p i f g s k is stands (until_all_taken view p i f g s stands all inside) rec
window_recorded view p w s k inside all is stands rec = absurd assumption

-- the tables that the data has for the children stand as the children with them do
pub tables_stand : (view : View) (p : ℕ) (fs : List CoreForm) (cs : List ChildOf) (tss : List (List TableOf))
    → TablesOver cs tss → ChildrenStand view p fs (with_tables cs tss) → TablesStand view p fs tss
tables_stand view p [] [] [] over stand = tt
tables_stand view p (f ∷ fs) (c ∷ cs) (ts ∷ tss) over stand = search (tables_stand view p fs cs tss over.1 stand.1)
tables_stand view p (f ∷ fs) [] [] over stand = absurd stand
tables_stand view p [] (c ∷ cs) (ts ∷ tss) over stand = absurd stand
tables_stand view p fs [] (ts ∷ tss) over stand = absurd over
tables_stand view p fs (c ∷ cs) [] over stand = absurd over

join_recorded : (view : View) (f : CoreForm) (s : JoinOf) (k : JoinData) → JoinStands view f s → join_of s k ≡ s
    → JoinRule s.children k → JoinDataStands view f k
join_recorded view f s k stands same rule = grind (arith, tables_stand)

-- a node's data stands where the node does
pub node_recorded : (view : View) (f : CoreForm) (n : Node) (k : NodeData) → IsNodeFor f n → NodeStands view f n
    → NodeRecorded n k → NodeDataStands view f k
node_recorded view f (node.Constant table) kept.Bare is stands rec = tt
node_recorded view f (node.Atom a) kept.Bare is stands rec = tt
node_recorded view f (node.Exists x) kept.Bare is stands rec = tt
node_recorded view (Not f) (node.Join s) (kept.Join k) is stands rec = join_recorded view (Not f) s k stands rec.0 rec.1
node_recorded view (And f g) (node.Join s) (kept.Join k) is stands rec = search (join_recorded)
node_recorded view (And f g) (node.Filter s) (kept.Filter tables w) is stands rec =
    grind (arith, window_recorded, reached_within)
node_recorded view (Or f g) (node.Or s) (kept.Or k) is stands rec = grind arith
node_recorded view (Previous i f) (node.Previous s) (kept.Previous k) is stands rec = grind arith
node_recorded view (Next i f) (node.Next s) (kept.Next k) is stands rec = grind arith
node_recorded view (Since i f g) (node.Since s order) (kept.Window (data_of.Since k)) is stands rec =
    since_recorded view (reached view (Since i f g)) i f g s k is.state stands rec
node_recorded view (Until i f g) (node.Until s order) (kept.Window (data_of.Until k)) is stands rec =
    until_recorded view (reached view (Until i f g)) i f g s k is.state stands.at stands.taken rec
node_recorded view f n k is stands rec = absurd assumption

pub nodes_recorded : (view : View) (fs : List CoreForm) (ns : List Node) (ks : List NodeData) → NodesStand view fs ns
    → NodesRecorded ns ks → NodesDataStand view fs ks
nodes_recorded view [] [] [] stand rec = tt
nodes_recorded view (f ∷ fs) (n ∷ ns) (k ∷ ks) stand rec =
    (node_recorded view f n k stand.0 stand.1 rec.0, nodes_recorded view fs ns ks stand.2 rec.1)
nodes_recorded view fs ns ks stand rec = absurd assumption

-- one node more was recorded
pub recorded_more : (n : Node) (k : NodeData) (ns : List Node) (ks : List NodeData) → NodesRecorded ns ks
    → NodeRecorded n k → NodesRecorded (ns ++ n ∷ []) (ks ++ k ∷ [])
recorded_more n k [] [] all one = (one, tt)
recorded_more n k (m ∷ ns) (j ∷ ks) all one = (all.0, recorded_more n k ns ks all.1 one)
recorded_more n k ns ks all one = absurd assumption
