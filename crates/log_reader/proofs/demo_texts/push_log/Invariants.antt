use Rattle.std.proofs.Common.{◌≡◌, ◌++◌, ◌-◌, ◌*◌, ◌≤◌, string_bytes}
use Rattle.std.specs.List.{flat_map}
use Rattle.log_reader.specs.DemoEvents.{moments, line_of}
use Rattle.log_reader.proofs.demo_texts.push_log.Given as goal

abbrev pub invariant-loop : goal.invariant-loop
invariant-loop l = record {
  lines : string_bytes l.log ++ flat_map line_of (moments (2000 - l.counter) l.time l.draws.state)
      ≡ string_bytes l.fn.log ++ flat_map line_of (moments 2000 0 l.fn.seed);
  early : l.time ≤ 3 * l.counter;
}
