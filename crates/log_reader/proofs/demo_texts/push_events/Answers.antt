use Rattle.std.proofs.Common.{arith}
use Rattle.log_reader.proofs.DemoLemmas.{event_written, event_drawn, events_written, events_drawn}
use Rattle.log_reader.proofs.demo_texts.push_events.Goals as goal

pub loop-preserved : goal.loop-preserved
loop-preserved c = record {
  events =
      event_written _ _ _ _ _ _ _ _ (omega arith) c.draw.ensures.event c.draw.ensures.draws
      c.in_ok-push_to.ensures c.loop.invariant.events;
  draws = event_drawn _ _ _ _ _ (omega arith) c.draw.ensures.draws c.loop.invariant.draws;
}

pub returns-clause-events : goal.returns-clause-events
returns-clause-events c = events_written _ _ _ _ (omega arith) c.loop.invariant.events

pub returns-clause-draws : goal.returns-clause-draws
returns-clause-draws c = events_drawn _ _ _ (omega arith) c.loop.invariant.draws
