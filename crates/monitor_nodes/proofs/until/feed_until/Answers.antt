use Rattle.std.proofs.lemmas.Result.{on_ok_weaker}
use Rattle.monitor_nodes.specs.UntilFeeding.{UntilFeeds}
use Rattle.monitor_nodes.proofs.until.feed_until.Goals as goal

pub returns : goal.returns
returns c =
    on_ok_weaker {Q = UntilFeeds c.args.state.now c.args.ts c.args.left c.args.right
    c.push_rights.new.state}
    c.push_rights.result
    (λ rights.
    record {
      timed = c.push_time.new.state;
      fed_left = c.push_lefts.new.state;
      time = c.in_ok-push_time.ensures.pushed;
      time_left = c.in_ok-push_time.ensures.left;
      time_follows = c.in_ok-push_time.ensures.follows;
      lefts = c.in_ok-push_lefts.ensures;
      rights = rights;
    })
    c.push_rights.ensures
