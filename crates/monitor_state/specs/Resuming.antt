-- What becomes of nodes into which data is put: where the data stands for a log, they do.
use Rattle.std.specs.Prelude.{◌≡◌, ℕ, ◌≤◌, Bool, true, List, [], ◌∷◌, drop}
use Rattle.mfotl_model.specs.Exact.{View}
use Rattle.mfotl_model.specs.FreeVariables.{fv}
use Rattle.mfotl_model.specs.Log.{times}
use Rattle.mfotl_model.specs.Regions.{Passes}
use Rattle.mfotl_model.specs.Satisfaction.{Valuation}
use Rattle.eval_since.specs.SinceData.{FollowsData, setting_of}
use Rattle.eval_since.specs.SinceView.{Follows, SinceOf}
use Rattle.eval_since.specs.declared.recalled.SinceData.{SinceData}
use Rattle.eval_until.specs.UntilData.{setting_of as until_setting_of, until_of}
use Rattle.eval_until.specs.UntilView.{Follows as FollowsUntil, FollowsLeft, UntilOf}
use Rattle.eval_until.specs.declared.recalled.UntilData.{UntilData}
use Rattle.monitorable.specs.CoreForms.{CoreForm, meaning}
use Rattle.monitorable.specs.Soundness.{IsWellFormedIn}
use Rattle.monitor_nodes.specs.Stands.{IsNodeFor, NodeStands}
use Rattle.monitor_state.specs.Stands.{Stands, StateOf}
use Rattle.monitor_state.specs.StateRules.{NodeKeeps, WindowKeeps}
use Rattle.monitor_state.specs.StateStands.{NodeDataStands, StateStands, WindowDataStands}
use Rattle.monitor_state.specs.StateTimes.{KeptTimes, node_asks, time_before, times_from, window_asks}
use Rattle.monitor_nodes.specs.WindowNode.{IsWindow, WindowStands, window_took_all}
use Rattle.monitor_nodes.specs.declared.node.Node.{Node}
use Rattle.monitor_state.specs.declared.state.NodeData.{NodeData}
use Rattle.monitor_state.specs.declared.state.State.{State}
use Rattle.monitor_state.specs.declared.state.WindowData.{WindowData}
use Rattle.monitor_nodes.specs.declared.window.Window.{Window}

-- what is taken for granted of a region and a part of the core: near passes to parts of a row, and the part has all
-- that evaluating it relies on
pub record SuitsEvaluation (view : View) (whole f : CoreForm) : Type 0 where
  pub passes : Passes (fv view.whole) view.near
  pub sound : IsWellFormedIn whole f

-- timestamps are the log's from a place on, at which a node, or an earlier one, asks for them
pub record Reach (view : View) (k : KeptTimes) (asked : ℕ) : Type 0 where
  pub stamps : k.stamps ≡ drop k.first (times view.log)
  pub first : k.first ≤ asked

-- data was put into the state of a SINCE
pub record SinceResumed (k : KeptTimes) (old : SinceOf) (data_of : SinceData) (new : SinceOf) : Type 0 where
  pub setting : setting_of new ≡ setting_of old
  pub pulled : new.pulled ≡ data_of.pulled
  pub last : new.window.last ≡ time_before k data_of.pulled
  pub times : new.times ≡ times_from k data_of.pulled
  pub lefts : new.lefts ≡ data_of.lefts.items
  pub rights : new.rights ≡ data_of.rights.items
  pub follows : (t : List ℕ) (a b : List Bool) (v : Valuation)
      → FollowsData (setting_of old) (time_before k data_of.pulled) (times_from k data_of.pulled) data_of t a b v
      → Follows new t a b v

-- data was put into the state of an UNTIL
pub record UntilResumed (k : KeptTimes) (old : UntilOf) (data_of : UntilData) (new : UntilOf) : Type 0 where
  pub setting : until_setting_of new ≡ until_setting_of old
  pub pulled : new.ahead.pulled ≡ data_of.pulled
  pub taken : new.ahead.taken ≡ data_of.taken
  pub times : new.times ≡ times_from k data_of.pulled
  pub lefts : new.lefts ≡ data_of.lefts.items
  pub rights : new.rights ≡ data_of.rights.items
  pub left : (a : List Bool) (v : Valuation)
      → FollowsLeft (until_of (until_setting_of old) (times_from k data_of.pulled) data_of) a v → FollowsLeft new a v
  pub follows : (t : List ℕ) (a b : List Bool) (v : Valuation)
      → FollowsUntil (until_of (until_setting_of old) (times_from k data_of.pulled) data_of) t a b v
      → FollowsUntil new t a b v

-- data was put into a window
abbrev pub WindowResumed : KeptTimes → Window → WindowData → Window → Type 0
WindowResumed k old kept new =
    (w : CoreForm) → IsWindow w old → WindowKeeps k w kept
    → IsWindow w new
    × ((view : View) (whole : CoreForm) (p : ℕ) → SuitsEvaluation view whole w → Reach view k (window_asks kept)
    → WindowDataStands view p w kept → WindowStands view p w new × (window_took_all new ≡ true))

-- data was put into a node
abbrev pub NodeResumed : KeptTimes → Node → NodeData → Node → Type 0
NodeResumed k old kept new =
    (f : CoreForm) → IsNodeFor f old → NodeKeeps k f kept
    → IsNodeFor f new
    × ((view : View) (whole : CoreForm) → SuitsEvaluation view whole f → Reach view k (node_asks k.first kept)
    → NodeDataStands view f kept → NodeStands view f new)

-- node by node
abbrev pub NodesResumed : KeptTimes → List Node → List NodeData → List Node → Type 0
NodesResumed k [] [] [] = Unit {0}
NodesResumed k (o ∷ os) (d ∷ ds) (n ∷ ns) = NodeResumed k o d n × NodesResumed k os ds ns
NodesResumed k os ds ns = ⊥

-- the node is one of a core, whose data the other is
abbrev pub Matches : KeptTimes → Node → NodeData → Type 0
Matches k n kept = (f : CoreForm) × IsNodeFor f n × NodeKeeps k f kept

-- node by node
abbrev pub AllMatch : KeptTimes → List Node → List NodeData → Type 0
AllMatch k [] [] = Unit {0}
AllMatch k (n ∷ ns) (d ∷ ds) = Matches k n d × AllMatch k ns ds
AllMatch k ns ds = ⊥

-- what is taken for granted of a region and the whole core
pub record SuitsWhole (view : View) (core : CoreForm) : Type 0 where
  pub whole : view.whole ≡ meaning core
  pub suits : SuitsEvaluation view core core

-- where the data stands for a log, so does the state
abbrev pub Resumes : CoreForm → State → StateOf → Type 0
Resumes core kept state = (view : View) → SuitsWhole view core → StateStands view core kept → Stands view core state
