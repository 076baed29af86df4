use Rattle.monitor_nodes.proofs.since.push_right.Goals as goal

pub returns : goal.returns
returns c = record {
  pushed = c.in_ok-push_right.ensures.pushed;
  follows = λ t a b v h one. c.in_ok-push_right.ensures.follows t a b v h one.0;
}
