-- The rule of states as plain data: the shape is the core's, and each node keeps what its evaluator can go on from.
-- It speaks of no log and no region.
use Rattle.std.specs.Prelude.{◌≡◌, ◌<◌, true, List, [], ◌∷◌, length, map}
use Rattle.mfotl_model.specs.FreeVariables.{fv}
use Rattle.mfotl_model.specs.declared.interval.Interval.{Interval}
use Rattle.core_arranging.specs.Windows.{left_operand}
use Rattle.eval_bool.specs.BoolData.{JoinRule, OrRule}
use Rattle.eval_bool.specs.JoinView.{children_of}
use Rattle.eval_bool.specs.declared.recalled.JoinData.{JoinData}
use Rattle.eval_since.specs.PreviousData.{PreviousRule}
use Rattle.eval_since.specs.SinceData.{KeepsRule, SinceSetting}
use Rattle.eval_until.specs.NextData.{NextRule}
use Rattle.eval_until.specs.UntilData.{UntilRule, UntilSetting, until_of}
use Rattle.monitorable.specs.Conjuncts.{conjuncts_of}
use Rattle.monitorable.specs.CoreForms.{CoreForm, meaning, True, False, Atom, Compare, Not, And, Or, Exists, Previous}
use Rattle.monitorable.specs.CoreForms.{Next, Since}
use Rattle.monitorable.specs.CoreForms.{Until}
use Rattle.relations.specs.Pushed.{AreOver}
use Rattle.monitor_nodes.specs.Operands.{children, filters, is_negated, operands}
use Rattle.monitor_state.specs.Nodes.{nodes_of}
use Rattle.monitor_nodes.specs.Stands.{conjunct_as}
use Rattle.monitor_state.specs.StateTimes.{KeptTimes, time_before, times_from, times_of}
use Rattle.monitor_state.specs.declared.state.NodeData.{NodeData}
use Rattle.monitor_state.specs.declared.state.NodeData.TheVariants as kept
use Rattle.monitor_state.specs.declared.state.SinceKept.{SinceKept}
use Rattle.monitor_state.specs.declared.state.State.{State}
use Rattle.monitor_state.specs.declared.state.UntilKept.{UntilKept}
use Rattle.monitor_state.specs.declared.state.WindowData.{WindowData}
use Rattle.monitor_state.specs.declared.state.WindowData.TheVariants as window

-- what a SINCE of these cores is made with
abbrev pub since_setting : Interval → CoreForm → CoreForm → SinceSetting
since_setting i f g =
    record { interval = i; left = fv (meaning (left_operand f)); right = fv (meaning g); negated = is_negated f }

-- what an UNTIL of these cores is made with
abbrev pub until_setting : Interval → CoreForm → CoreForm → UntilSetting
until_setting i f g =
    record { interval = i; left = fv (meaning (left_operand f)); right = fv (meaning g); negated = is_negated f }

-- the data is that of a SINCE of these cores, and can be gone on from
pub record SinceKeeps (k : KeptTimes) (i : Interval) (f g : CoreForm) (s : SinceKept) : Type 0 where
  pub interval : s.interval ≡ i
  pub columns : s.columns.items ≡ fv (meaning g)
  pub rule : KeepsRule (since_setting i f g) (time_before k s.kept.pulled) (times_from k s.kept.pulled) s.kept

-- the data is that of an UNTIL of these cores, and can be gone on from
pub record UntilKeeps (k : KeptTimes) (i : Interval) (f g : CoreForm) (s : UntilKept) : Type 0 where
  pub left : s.left.items ≡ fv (meaning (left_operand f))
  pub right : s.right.items ≡ fv (meaning g)
  pub rule : UntilRule (until_of (until_setting i f g) (times_from k s.kept.pulled) s.kept)

-- the data is that of a window, and can be gone on from
abbrev pub WindowKeeps : KeptTimes → CoreForm → WindowData → Type 0
WindowKeeps k (Since i f g) (window.Since s) = SinceKeeps k i f g s
WindowKeeps k (Until i f g) (window.Until s) = UntilKeeps k i f g s
WindowKeeps k f other = ⊥

-- the data is that of a conjunction with a child and no conjunct that is only asked
pub record JoinKeeps (f : CoreForm) (s : JoinData) : Type 0 where
  pub some : 0 < length (children (conjuncts_of f))
  pub whole : operands f ≡ children (conjuncts_of f)
  pub rule : JoinRule (children_of (map conjunct_as (conjuncts_of f))) s

-- the data is that of the core's node, and can be gone on from
abbrev pub NodeKeeps : KeptTimes → CoreForm → NodeData → Type 0
NodeKeeps k True kept.Bare = Unit {0}
NodeKeeps k False kept.Bare = Unit {0}
NodeKeeps k (Atom a) kept.Bare = Unit {0}
NodeKeeps k (Compare c) kept.Bare = Unit {0}
NodeKeeps k (Exists x f) kept.Bare = Unit {0}
NodeKeeps k (Not f) kept.Bare = operands (Not f) ≡ []
NodeKeeps k (And f g) kept.Bare = operands (And f g) ≡ []
NodeKeeps k (Not f) (kept.Join s) = JoinKeeps (Not f) s
NodeKeeps k (And f g) (kept.Join s) = JoinKeeps (And f g) s
NodeKeeps k (And f g) (kept.Filter tables w) =
    (filters f g ≡ true) × AreOver (fv (meaning f)) tables.items × WindowKeeps k (left_operand g) w
NodeKeeps k (Or f g) (kept.Or s) = OrRule (fv (meaning (Or f g))) (fv (meaning g)) s
NodeKeeps k (Previous i f) (kept.Previous s) = PreviousRule (fv (meaning f)) (times_from k s.pulled) s
NodeKeeps k (Next i f) (kept.Next s) = NextRule (fv (meaning f)) (times_from k s.pulled) s
NodeKeeps k (Since i f g) (kept.Window w) = WindowKeeps k (Since i f g) w
NodeKeeps k (Until i f g) (kept.Window w) = WindowKeeps k (Until i f g) w
NodeKeeps k f other = ⊥

-- node by node
abbrev pub NodesKeep : KeptTimes → List CoreForm → List NodeData → Type 0
NodesKeep k [] [] = Unit {0}
NodesKeep k (f ∷ fs) (n ∷ ns) = NodeKeeps k f n × NodesKeep k fs ns
NodesKeep k fs ns = ⊥

-- the data is that of the core's nodes, and a monitor can go on from it
abbrev pub StateRule : CoreForm → State → Type 0
StateRule core s = NodesKeep (times_of s) (nodes_of core) s.nodes.items
