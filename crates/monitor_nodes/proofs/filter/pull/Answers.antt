use Rattle.std.proofs.Common.{◌≡◌, rules, refl, true}
use Rattle.monitor_nodes.specs.WindowNode.{window_due}
use Rattle.monitor_nodes.proofs.OrderingLemmas.{taken_one}
use Rattle.monitor_nodes.proofs.filter.pull.Goals as goal

pub returns : goal.returns
returns c =
    let due : window_due c.settle.new.window ≡ true = search (rules, c.is_due.ensures, c.if-not-is_due.false) in
    record {
      table = c.in-Some.table;
      ready = c.settle.new.window;
      front = taken_one c.take.result c.in-Some.table c.args.state.now.tables c.take.new.self c.in-Some.is
          c.take.ensures.first;
      turns = refl;
      orders = refl;
      settles = c.in_ok-settle.ensures.settles;
      was_due = due;
      gives = c.in_ok-kept.ensures.gives;
      goes = c.in_ok-kept.ensures.goes;
    }
