-- What a node's data records of it: all that it keeps, by the rows themselves.
use Rattle.std.specs.Prelude.{◌≡◌, ℕ, cond, nat_lt, List, [], ◌∷◌, length}
use Rattle.mfotl_model.specs.declared.value.Value.{Value}
use Rattle.eval_bool.specs.BoolData.{JoinRule, OrRule, join_of, or_of}
use Rattle.eval_since.specs.PreviousData.{PreviousRule, previous_of}
use Rattle.row_times.specs.KeptTimes.{times_kept}
use Rattle.eval_since.specs.SinceData.{KeepsRule, setting_of}
use Rattle.eval_since.specs.SinceView.{SinceOf}
use Rattle.eval_since.specs.WindowView.{kept_times}
use Rattle.eval_until.specs.NextData.{NextRule, next_of}
use Rattle.eval_until.specs.UntilData.{UntilRule, setting_of as until_setting_of, until_of}
use Rattle.eval_until.specs.UntilView.{UntilOf}
use Rattle.relations.specs.KeptRows.{filled, kept_for}
use Rattle.monitor_nodes.specs.Stamps.{stamps}
use Rattle.monitor_nodes.specs.declared.node.Node.{Node}
use Rattle.monitor_nodes.specs.declared.node.Node.TheVariants as node
use Rattle.monitor_state.specs.declared.state.NodeData.{NodeData}
use Rattle.monitor_state.specs.declared.state.NodeData.TheVariants as kept
use Rattle.monitor_state.specs.declared.state.SinceKept.{SinceKept}
use Rattle.monitor_state.specs.declared.state.UntilKept.{UntilKept}
use Rattle.monitor_state.specs.declared.state.WindowData.{WindowData}
use Rattle.monitor_state.specs.declared.state.WindowData.TheVariants as data_of
use Rattle.monitor_nodes.specs.declared.window.Window.{Window}
use Rattle.monitor_nodes.specs.declared.window.Window.TheVariants as window

-- of a SINCE
pub record SinceRecorded (s : SinceOf) (k : SinceKept) : Type 0 where
  pub interval : k.interval ≡ s.window.interval
  pub columns : k.columns.items ≡ s.window.right
  pub pulled : k.kept.pulled ≡ s.pulled
  pub lefts : k.kept.lefts.items ≡ s.lefts
  pub rights : k.kept.rights.items ≡ s.rights
  pub rows : (u : List Value) → kept_for (times_kept k.kept.rows.items) u ≡ filled (kept_times s.window u)
  pub rule : KeepsRule (setting_of s) s.window.last s.times k.kept

-- of an UNTIL
pub record UntilRecorded (s : UntilOf) (k : UntilKept) : Type 0 where
  pub left : k.left.items ≡ s.ahead.left
  pub right : k.right.items ≡ s.ahead.right
  pub same : until_of (until_setting_of s) s.times k.kept ≡ s
  pub rule : UntilRule (until_of (until_setting_of s) s.times k.kept)

-- of a window
abbrev pub WindowRecorded : Window → WindowData → Type 0
WindowRecorded (window.Since s) (data_of.Since k) = SinceRecorded s k
WindowRecorded (window.Until s) (data_of.Until k) = UntilRecorded s k
WindowRecorded w other = ⊥

-- of a node
abbrev pub NodeRecorded : Node → NodeData → Type 0
NodeRecorded (node.Constant table) kept.Bare = Unit {0}
NodeRecorded (node.Atom a) kept.Bare = Unit {0}
NodeRecorded (node.Exists x) kept.Bare = Unit {0}
NodeRecorded (node.Join s) (kept.Join k) = (join_of s k ≡ s) × JoinRule s.children k
NodeRecorded (node.Filter s) (kept.Filter tables k) = (tables.items ≡ s.tables) × WindowRecorded s.window k
NodeRecorded (node.Or s) (kept.Or k) = (or_of s.left s.right k ≡ s) × OrRule s.left s.right k
NodeRecorded (node.Previous s) (kept.Previous k) =
    (previous_of s.interval s.columns s.last s.times k ≡ s) × PreviousRule s.columns s.times k
NodeRecorded (node.Next s) (kept.Next k) =
    (next_of s.interval s.columns s.times k ≡ s) × NextRule s.columns s.times k
NodeRecorded (node.Since s order) (kept.Window k) = WindowRecorded (window.Since s) k
NodeRecorded (node.Until s order) (kept.Window k) = WindowRecorded (window.Until s) k
NodeRecorded n other = ⊥

-- node by node
abbrev pub NodesRecorded : List Node → List NodeData → Type 0
NodesRecorded [] [] = Unit {0}
NodesRecorded (n ∷ ns) (k ∷ ks) = NodeRecorded n k × NodesRecorded ns ks
NodesRecorded ns ks = ⊥

-- the timestamps that a window knows, from the earliest one on that it asks for
abbrev pub window_stamps : Window → List ℕ
window_stamps (window.Since s) = stamps s.pulled s.window.last s.times
window_stamps (window.Until s) = s.times

-- those that a node knows; none where it asks for none
abbrev pub node_stamps : Node → List ℕ
node_stamps (node.Previous s) = stamps s.pulled s.last s.times
node_stamps (node.Next s) = s.times
node_stamps (node.Since s order) = window_stamps (window.Since s)
node_stamps (node.Until s order) = window_stamps (window.Until s)
node_stamps (node.Filter s) = window_stamps s.window
node_stamps other = []

-- the longer one of two lists
abbrev pub longer_of : List ℕ → List ℕ → List ℕ
longer_of xs ys = cond (nat_lt (length xs) (length ys)) ys xs

-- the longest of the timestamps that the nodes know, and of some others
abbrev pub longest : List Node → List ℕ → List ℕ
longest [] own = own
longest (n ∷ ns) own = longest ns (longer_of own (node_stamps n))
