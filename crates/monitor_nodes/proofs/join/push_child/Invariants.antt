use Rattle.std.proofs.Common.{◌≡◌}
use Rattle.monitor_nodes.specs.JoinFeeding.{child_fed}
use Rattle.monitor_nodes.proofs.join.push_child.Given as goal

abbrev pub invariant-loop-table : goal.invariant-loop-table
invariant-loop-table l =
    l.state ≡ record l.initial.state { children = child_fed l.initial.state.children l.child l.yielded }
