-- The timestamps of a state's data are the log's from the earliest place on that a node asks for.
use Rattle.std.proofs.Common.{◌≡◌, ℕ, ◌≤◌, min, List, [], ◌∷◌, length, drop, arith}
use Rattle.std.proofs.{lemmas.Bool.ltb-true, lemmas.Bool.ltb-false, lemmas.List.length-drop}
use Rattle.mfotl_model.specs.{Exact.View, Log.times}
use Rattle.monitorable.specs.CoreForms.{CoreForm}
use Rattle.monitor_nodes.proofs.{ExactLemmas.reached_within}
use Rattle.monitor_state.proofs.{ResumeTimes.log_size}
use Rattle.monitor_state.specs.Recording.{NodeRecorded, NodesRecorded, longer_of, longest, node_stamps}
use Rattle.monitor_nodes.specs.Stands.{IsNodeFor, NodeStands}
use Rattle.monitor_state.specs.Stands.{NodesStand}
use Rattle.monitor_state.specs.StateTimes.{earliest, node_asks}
use Rattle.monitor_nodes.specs.declared.{node.Node.Node}
use Rattle.monitor_state.specs.declared.{state.NodeData.NodeData}

-- of two rests of a list the longer one begins at the lesser place
longer_is : (all xs ys : List ℕ) (a b : ℕ) → a ≤ length all → b ≤ length all → xs ≡ drop a all → ys ≡ drop b all
    → longer_of xs ys ≡ drop (min a b) all
longer_is all xs ys a b low high first second = grind (arith, length-drop, ltb-true, ltb-false)

-- what a node asks for, it knows: the log's timestamps from there on
pub record Knows (view : View) (asks : ℕ) (known : List ℕ) : Type 0 where
  pub stamps : known ≡ drop asks (times view.log)
  pub inside : asks ≤ length (times view.log)

-- the longer one of a list and of what a node knows
abbrev Lengthens : View → ℕ → Node → NodeData → List ℕ → Type 0
Lengthens view place n k own = (longer_of own (node_stamps n) ≡ drop (min place (node_asks place k)) (times view.log))

nothing_more : (view : View) (place : ℕ) (own : List ℕ) → own ≡ drop place (times view.log)
    → longer_of own [] ≡ drop (min place place) (times view.log)
nothing_more view place own is = grind arith

node_more : (view : View) (f : CoreForm) (n : Node) (k : NodeData) (place : ℕ) (own : List ℕ)
    → place ≤ length (times view.log) → own ≡ drop place (times view.log) → IsNodeFor f n → NodeStands view f n
    → NodeRecorded n k → Lengthens view place n k own
node_more view f n k place own inside is for stands rec =
    grind (arith, longer_is, log_size, reached_within, log_size, nothing_more)

-- the longest of all that the nodes know
pub longest_is : (view : View) (fs : List CoreForm) (ns : List Node) (ks : List NodeData) (place : ℕ) (own : List ℕ)
    → place ≤ length (times view.log) → own ≡ drop place (times view.log) → NodesStand view fs ns → NodesRecorded ns ks
    → longest ns own ≡ drop (earliest place ks) (times view.log)
longest_is view [] [] [] place own inside is stand rec = is
longest_is view (f ∷ fs) (n ∷ ns) (k ∷ ks) place own inside is stand rec =
    longest_is view fs ns ks (min place (node_asks place k)) (longer_of own (node_stamps n)) (omega arith)
    (node_more view f n k place own inside is stand.0 stand.1 rec.0) stand.2 rec.1
longest_is view fs ns ks place own inside is stand rec = absurd assumption
