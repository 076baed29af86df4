use Rattle.std.proofs.Common.{◌≡◌, length}
use Rattle.monitor_nodes.specs.JoinFeeding.{join_fed}
use Rattle.monitor_nodes.proofs.join.push_children.Given as goal

abbrev pub invariant-loop-tables : goal.invariant-loop-tables
invariant-loop-tables l = record {
  number : l.child ≡ length l.yielded;
  fed : l.state ≡ join_fed l.initial.state l.yielded;
}
