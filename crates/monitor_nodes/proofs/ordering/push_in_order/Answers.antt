use Rattle.std.proofs.lemmas.Result.{on_ok_weaker}
use Rattle.monitor_nodes.specs.Ordered.{PushedInOrder}
use Rattle.monitor_nodes.proofs.ordering.push_in_order.Goals as goal

pub returns : goal.returns
returns c =
    on_ok_weaker {Q = PushedInOrder c.args.order.now.columns c.args.table c.args.tables.now c.push.new.self}
    c.push.result
    (λ pushed.
    record {
      ordered = c.in_ok-in_order.field-0;
      columns = c.in_ok-in_order.ensures.columns;
      same = c.in_ok-in_order.ensures.has;
      pushed = pushed;
    })
    c.push.ensures
