-- When what a monitor keeps stands for a log, in a region of rows.
use Rattle.std.specs.Prelude.{◌≡◌, ℕ, ◌+◌, ◌≤◌, ◌^◌, List, [], ◌∷◌, length, drop}
use Rattle.mfotl_model.specs.Exact.{View}
use Rattle.mfotl_model.specs.Log.{times}
use Rattle.monitorable.specs.CoreForms.{CoreForm}
use Rattle.monitor_state.specs.Nodes.{nodes_of}
use Rattle.monitor_nodes.specs.Views.{reached}
use Rattle.monitor_nodes.specs.declared.node.Node.{Node}
use Rattle.monitor_nodes.specs.Stands.{IsNodeFor, NodeStands}

-- each node is one for its core, and stands for the log
abbrev pub NodesStand : View → List CoreForm → List Node → Type 0
NodesStand view [] [] = Unit {0}
NodesStand view (f ∷ fs) (n ∷ ns) = IsNodeFor f n × NodeStands view f n × NodesStand view fs ns
NodesStand view fs ns = ⊥

-- What a monitor keeps: how many time-points it took and how many tables it gave, the timestamps from
-- the place `first` on, and the nodes of the core, operands first.
pub record StateOf : Type 0 where
  pub taken : ℕ
  pub given : ℕ
  pub first : ℕ
  pub times : List ℕ
  pub nodes : List Node

-- The state stands for the log: it took the log's time-points, gave the tables of the core's settled
-- positions, keeps the timestamps from one of these on at the latest, and its nodes stand for the log.
pub record Stands (view : View) (core : CoreForm) (state : StateOf) : Type 0 where
  pub taken : state.taken ≡ length view.log
  pub given : state.given ≡ reached view core
  pub first : state.first ≤ state.given
  pub times : state.times ≡ drop state.first (times view.log)
  pub nodes : NodesStand view (nodes_of core) state.nodes

-- the timestamps of so many positions from the first on are kept
pub record IsKept (state : StateOf) (first count : ℕ) : Type 0 where
  pub from : state.first ≤ first
  pub upto : first + count ≤ state.first + length state.times
  pub few : first + count ≤ 2 ^ 63
