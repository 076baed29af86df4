use Rattle.std.proofs.Common.{◌<◌, ◌≤◌, arith, length}
use Rattle.monitor_state.proofs.MonitorSteps.{going_behind, going_turns}
use Rattle.monitor_state.proofs.monitor.advance_before.Goals as goal

pub loop-node-preserved : goal.loop-node-preserved
loop-node-preserved c view point core behind begins =
    let inside : c.loop-node.node-index < length c.loop-node.nodes = omega arith in
    going_turns view point c.args.point.now core c.loop-node.nodes behind c.loop-node.node-index
    c.loop-node.stack.items c.advance.new.stack.items c.push.new.self.items c.in_ok-tables.tables c.node-item.result
    c.advance.new.self inside (c.loop-node.invariant view point core behind begins) c.in_ok-tables.ensures
    c.in_ok-push.ensures.items

pub returns : goal.returns
returns c view point core behind begins =
    let done : length c.loop-node.nodes ≤ c.loop-node.node-index = omega arith in
    going_behind view point c.args.point.now core c.loop-node.nodes behind c.loop-node.node-index
    c.loop-node.stack.items done (c.loop-node.invariant view point core behind begins)
