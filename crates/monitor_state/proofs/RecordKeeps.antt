-- The nodes' data keeps the rule, where the nodes stand for a log.
use Rattle.std.proofs.Common.{◌≡◌, ℕ, ◌+◌, ◌≤◌, min, List, [], ◌∷◌, length, map, drop, ap, arith}
use Rattle.std.specs.List.{AllByRecursion}
use Rattle.mfotl_model.specs.{Exact.AllExact, Exact.View, FreeVariables.fv, Formulas.Form, Log.times, Tables.TableOf}
use Rattle.eval_bool.proofs.{ChildLemmas.Alike, RefillLemmas.rule_alike}
use Rattle.eval_bool.specs.{BoolData.JoinRule, JoinView.ChildOf, JoinView.JoinOf}
use Rattle.eval_bool.specs.declared.recalled.JoinData.{JoinData}
use Rattle.monitorable.specs.CoreForms.{CoreForm}
use Rattle.relations.specs.Pushed.{AreOver}
use Rattle.monitor_state.proofs.{MarkLemmas.dropped_behind, RecordRules.since_keeps, StampLemmas.stamps_rest}
use Rattle.monitor_state.specs.Recording.{NodeRecorded, NodesRecorded, WindowRecorded}
use Rattle.monitor_nodes.specs.{WindowNode.IsWindow, WindowNode.WindowStands}
use Rattle.monitor_state.specs.{Resuming.Reach}
use Rattle.monitor_nodes.specs.Stands.{IsNodeFor, IsConjunction, NodeStands, bare}
use Rattle.monitor_state.specs.Stands.{NodesStand}
use Rattle.monitor_state.specs.StateRules.{JoinKeeps, NodeKeeps, NodesKeep, WindowKeeps}
use Rattle.monitor_state.specs.StateTimes.{KeptTimes, earliest, node_asks, window_asks}
use Rattle.monitor_nodes.specs.declared.{node.Node.Node, window.Window.Window}
use Rattle.monitor_state.specs.declared.{state.NodeData.NodeData, state.WindowData.WindowData}
use Rattle.std.proofs.lemmas.Grind.{common_steps}

-- exact tables are over the formula's variables
exact_over : (view : View) (f : Form) (p : ℕ) (tables : List TableOf) → AllExact view f p tables → AreOver (fv f) tables
exact_over view f p [] all = tt
exact_over view f p (t ∷ ts) all = (all.0.columns, exact_over view f (p + 1) ts all.1)

-- children that are the same but for their tables
pub alike_parts : (xs ys : List ChildOf) → map bare xs ≡ ys → Alike xs ys
alike_parts [] [] same = tt
alike_parts [] (y ∷ ys) same = absurd (let size : 0 ≡ length (y ∷ ys) = ap length same in omega arith)
alike_parts (x ∷ xs) [] same = absurd (let size : length (map bare (x ∷ xs)) ≡ 0 = ap length same in omega arith)
alike_parts (x ∷ xs) (y ∷ ys) same = search (alike_parts xs ys (ap (drop 1) same))

join_keeps : (f : CoreForm) (s : JoinOf) (k : JoinData) → IsConjunction f s → JoinRule s.children k → JoinKeeps f k
join_keeps f s k is rule = search (rule_alike, alike_parts)

window_keeps : (view : View) (k : KeptTimes) (p : ℕ) (w : CoreForm) (s : Window) (d : WindowData)
    → Reach view k (window_asks d) → IsWindow w s → WindowStands view p w s → WindowRecorded s d → WindowKeeps k w d
window_keeps view k p w s d reach is stands rec = grind (arith, since_keeps, dropped_behind)

node_keeps : (view : View) (k : KeptTimes) (f : CoreForm) (n : Node) (d : NodeData)
    → Reach view k (node_asks k.first d) → IsNodeFor f n → NodeStands view f n → NodeRecorded n d → NodeKeeps k f d
node_keeps view k f n d reach is stands rec =
    grind (arith, common_steps, join_keeps, exact_over, window_keeps, stamps_rest, dropped_behind)

-- the timestamps reach to what each of the nodes asks for
abbrev pub AllReached : KeptTimes → List NodeData → Type 0
AllReached k ds = AllByRecursion (λ d. k.first ≤ node_asks k.first d) ds

pub nodes_keep : (view : View) (k : KeptTimes) (fs : List CoreForm) (ns : List Node) (ds : List NodeData)
    → k.stamps ≡ drop k.first (times view.log) → AllReached k ds → NodesStand view fs ns → NodesRecorded ns ds
    → NodesKeep k fs ds
nodes_keep view k [] [] [] are low stand rec = tt
nodes_keep view k (f ∷ fs) (n ∷ ns) (d ∷ ds) are low stand rec =
    search (node_keeps, nodes_keep view k fs ns ds are low.1 stand.2 rec.1)
nodes_keep view k fs ns ds are low stand rec = absurd assumption

-- ---- the earliest place of all

pub earliest_least : (place : ℕ) (ds : List NodeData) → earliest place ds ≤ place
earliest_least place [] = omega arith
earliest_least place (d ∷ ds) = omega (arith, earliest_least (min place (node_asks place d)) ds)

-- it is no later than any of them
pub earliest_reaches : (first place : ℕ) (ds : List NodeData) → first ≡ earliest place ds
    → AllByRecursion (λ d. first ≤ node_asks first d) ds
earliest_reaches first place [] is = tt
earliest_reaches first place (d ∷ ds) is =
    grind (arith, earliest_least, earliest_reaches first (min place (node_asks place d)) ds is)
