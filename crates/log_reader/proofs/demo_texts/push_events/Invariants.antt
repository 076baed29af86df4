use Rattle.std.proofs.Common.{◌≡◌, ◌++◌, ◌-◌, string_bytes}
use Rattle.std.specs.List.{flat_map}
use Rattle.log_reader.specs.DemoEvents.{events_behind, state_behind_all, written}
use Rattle.log_reader.proofs.demo_texts.push_events.Given as goal

abbrev pub invariant-loop : goal.invariant-loop
invariant-loop l = record {
  events : string_bytes l.log ++ flat_map written (events_behind (l.count - l.counter) l.draws.state)
      ≡ string_bytes l.initial.log ++ flat_map written (events_behind l.count l.initial.draws.state);
  draws : state_behind_all (l.count - l.counter) l.draws.state ≡ state_behind_all l.count l.initial.draws.state;
}
