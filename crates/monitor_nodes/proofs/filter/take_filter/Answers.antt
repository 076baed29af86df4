use Rattle.std.proofs.{Common.List, Common.refl, lemmas.Result.IfOk-weaker}
use Rattle.mfotl_model.specs.Tables.{TableOf}
use Rattle.monitor_nodes.specs.FilterFeeding.{FilterPulled, FilterStops, FilterTakes}
use Rattle.monitor_nodes.specs.declared.filter.FilterState.{FilterState}
use Rattle.monitor_nodes.proofs.filter.take_filter.Goals as goal

pub returns : goal.returns
returns c =
    let fed : FilterState =
    record {
      tables = c.push_tables.new.kept;
      window = c.feed_window.new.window;
      negated = c.args.state.now.negated;
      order = c.args.state.now.order;
    } in
    let Pulled : List TableOf → Type 0 =
    λ tables. (last : FilterState) × FilterPulled fed last tables × FilterStops last c.pulled.new.state in
    IfOk-weaker c.pulled.result Pulled
    (FilterTakes c.args.state.now c.args.ts c.args.tables c.args.left c.args.right c.pulled.new.state)
    (λ tables pulled.
    record {
      fed = fed;
      last = pulled.0;
      pushed = c.in_ok-push_tables.ensures;
      turns = refl;
      orders = refl;
      feeds = c.in_ok-feed_window.ensures;
      pulls = pulled.1;
      stops = pulled.2;
    })
    c.pulled.ensures
