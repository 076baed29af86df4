use Rattle.std.proofs.Common.{◌≡◌, drop}
use Rattle.monitor_state.specs.Recording.{longest}
use Rattle.monitor_state.proofs.stamps.longest.Given as goal

abbrev pub invariant-loop-node : goal.invariant-loop-node
invariant-loop-node l = longest (drop l.node-index l.nodes) l.best.items ≡ longest l.nodes l.fn.own.items
