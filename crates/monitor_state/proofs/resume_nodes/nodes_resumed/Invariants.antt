use Rattle.monitor_state.proofs.ResumeState.{GoesBehind}
use Rattle.monitor_state.specs.Resuming.{AllMatch}
use Rattle.monitor_state.proofs.resume_nodes.nodes_resumed.Given as goal

abbrev pub invariant-loop-node : goal.invariant-loop-node
invariant-loop-node l =
    record {
      match : AllMatch l.times l.node-iterator.rest.items l.left.rest.items;
      behind : GoesBehind l.times l.fn.fresh.items l.fn.kept.items l.node-iterator.rest.items l.left.rest.items
          l.nodes.items;
    }
