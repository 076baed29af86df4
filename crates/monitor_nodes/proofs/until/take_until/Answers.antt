use Rattle.std.proofs.Common.{◌≡◌, true, false, List}
use Rattle.mfotl_model.specs.Tables.{TableOf}
use Rattle.eval_until.specs.UntilView.{due, took_all}
use Rattle.monitor_nodes.proofs.OrderingLemmas.{ok_both}
use Rattle.monitor_nodes.specs.UntilFeeding.{UntilPulled, UntilTakes}
use Rattle.monitor_nodes.proofs.until.take_until.Goals as goal

pub returns : goal.returns
returns c =
    let Pulled : List TableOf → Type 0 =
    UntilPulled c.args.order.now.columns c.feed_until.new.state c.pulled.new.state in
    let Ends : List TableOf → Type 0 = λ tables. Pulled tables × (due c.pulled.new.state ≡ false) in
    ok_both c.pulled.result Ends (took_all c.pulled.new.state ≡ true)
    (UntilTakes c.args.order.now.columns c.args.state.now c.args.ts c.args.left c.args.right c.pulled.new.state)
    (λ tables ends all.
    record {
      fed = c.feed_until.new.state;
      feeds = c.in_ok-feed_until.ensures;
      pulls = ends.0;
      ends = ends.1;
      all = all;
    })
    (ok_both c.pulled.result Pulled (due c.pulled.new.state ≡ false) Ends (λ tables pulls ends. (pulls, ends))
    c.pulled.ensures.pulled c.pulled.ensures.ends)
    c.pulled.ensures.all
