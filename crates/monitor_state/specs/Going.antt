-- How the nodes of a core work on the stack, one after the other.
use Rattle.std.specs.Prelude.{◌≡◌, List, [], ◌∷◌, ◌++◌}
use Rattle.mfotl_model.specs.Exact.{View}
use Rattle.mfotl_model.specs.Tables.{TableOf}
use Rattle.mfotl_model.specs.declared.event.TimePoint.{TimePoint}
use Rattle.monitorable.specs.CoreForms.{CoreForm}
use Rattle.core_arranging.specs.Arranging.{posed}
use Rattle.monitor_nodes.specs.Operands.{operands}
use Rattle.monitor_state.specs.Nodes.{nodes_of}
use Rattle.monitor_state.specs.Stands.{NodesStand}
use Rattle.monitor_nodes.specs.Steps.{News, Premises, StackNews, longer}
use Rattle.monitor_nodes.specs.declared.node.Node.{Node}

-- the cores still to come work on the stack: each takes its operands off and is put there; at the end
-- the goal alone is there
abbrev pub Works : CoreForm → List CoreForm → List CoreForm → Type 0
Works goal pending [] = pending ≡ goal ∷ []
Works goal pending (f ∷ todo) =
    (below : List CoreForm) × (pending ≡ below ++ operands f) × Works goal (below ++ f ∷ []) todo

-- what a step takes for granted of each of the cores
abbrev pub AllPremises : View → TimePoint → TimePoint → CoreForm → List CoreForm → Type 0
AllPremises view point given whole [] = Unit {0}
AllPremises view point given whole (f ∷ fs) = Premises view point given whole f × AllPremises view point given whole fs

-- the first nodes took the time-point, the others are still to
pub record Going (view : View) (point given : TimePoint) (whole : CoreForm) (done todo : List Node)
    (stack : List (List TableOf)) : Type 0 where
  pub old : List CoreForm
  pub next : List CoreForm
  pub pending : List CoreForm
  pub all : nodes_of whole ≡ old ++ next
  pub took : NodesStand (longer view point) old done
  pub take : NodesStand view next todo
  pub works : Works (posed whole) pending next
  pub premises : AllPremises view point given whole next
  pub news : StackNews view point pending stack

-- the first nodes take a time-point, whichever ones are behind them, and their tables are left on the stack
abbrev pub FirstAdvance : List Node → List (List TableOf) → TimePoint → List Node → List (List TableOf) → Type 0
FirstAdvance old stack given new left =
    (view : View) (point : TimePoint) (core : CoreForm) (behind : List Node)
    → Going view point given core [] (old ++ behind) stack → Going view point given core new behind left

-- all nodes take a time-point, and the tables of the core are given
abbrev pub AllAdvance : List Node → TimePoint → List Node → List TableOf → Type 0
AllAdvance old given new tables =
    (view : View) (point : TimePoint) (core : CoreForm) → Premises view point given core core
    → NodesStand view (nodes_of core) old
    → NodesStand (longer view point) (nodes_of core) new × News view point core tables
