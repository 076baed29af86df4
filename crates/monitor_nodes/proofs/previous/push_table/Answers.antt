use Rattle.monitor_nodes.proofs.previous.push_table.Goals as goal

pub returns : goal.returns
returns c = record {
  pushed = c.in_ok-push_right.ensures.pushed;
  follows = λ t a v h one. c.in_ok-push_right.ensures.follows t a v h one.0;
}
