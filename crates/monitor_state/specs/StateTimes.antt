-- Where the timestamps of a state live: once for all nodes, from the earliest place on that one of them asks for.
-- A SINCE or PREVIOUS with p positions pulled asks for the place p - 1 (its `last` when it is resumed) and those
-- behind it (its `times`), an UNTIL or NEXT for those from p on; other nodes ask for none.
use Rattle.std.specs.Prelude.{ℕ, zero, suc, ◌-◌, min, List, [], ◌∷◌, length, drop, slice_index}
use Rattle.monitor_state.specs.declared.state.NodeData.{NodeData}
use Rattle.monitor_state.specs.declared.state.NodeData.TheVariants as kept
use Rattle.monitor_state.specs.declared.state.State.{State}
use Rattle.monitor_state.specs.declared.state.WindowData.{WindowData}
use Rattle.monitor_state.specs.declared.state.WindowData.TheVariants as window

-- timestamps, and the place of the first of them
pub record KeptTimes : Type 0 where
  pub first : ℕ
  pub stamps : List ℕ

-- those of a state: they are the last ones of those taken
abbrev pub times_of : State → KeptTimes
times_of s = record { first = s.taken - length s.times.items; stamps = s.times.items }

-- those from a place on
abbrev pub times_from : KeptTimes → ℕ → List ℕ
times_from k p = drop (p - k.first) k.stamps

-- that of the place before; 0 before the first place
abbrev pub time_before : KeptTimes → ℕ → ℕ
time_before k zero = 0
time_before k (suc p) = slice_index k.stamps (p - k.first)

-- the earliest place that a window asks for
abbrev pub window_asks : WindowData → ℕ
window_asks (window.Since s) = s.kept.pulled - 1
window_asks (window.Until s) = s.kept.pulled

-- that of a node, or the given place where it asks for none
abbrev pub node_asks : ℕ → NodeData → ℕ
node_asks given (kept.Previous s) = s.pulled - 1
node_asks given (kept.Next s) = s.pulled
node_asks given (kept.Window w) = window_asks w
node_asks given (kept.Filter tables w) = window_asks w
node_asks given other = given

-- the earliest one of all, and of the given place
abbrev pub earliest : ℕ → List NodeData → ℕ
earliest given [] = given
earliest given (n ∷ ns) = earliest (min given (node_asks given n)) ns
