use Rattle.std.proofs.lemmas.Result.{on_ok_weaker}
use Rattle.monitorable.specs.CoreForms.{node_form}
use Rattle.monitor_state.proofs.FilterBegins.{filter_added, is_filtered_window}
use Rattle.monitor_state.proofs.begin_filter.add_filter.Goals as goal

pub asked_window-requires-clause-window : goal.asked_window-requires-clause-window
asked_window-requires-clause-window c =
    is_filtered_window (node_form c.args.left.now) (node_form c.args.right.now) c.requires.only

pub returns : goal.returns
returns c =
    on_ok_weaker c.add.result
    (filter_added (node_form c.args.left.now) (node_form c.args.right.now)
    (record {
      tables = c.new.result;
      window = c.in_ok-window.window;
      negated = c.is_negated.result;
      order = c.in_ok-order.order;
    })
    c.args.nodes.now.items c.add.new.nodes.items c.requires.only c.is_negated.ensures c.in_ok-order.ensures
    c.new.ensures c.in_ok-window.ensures)
    c.add.ensures
