use Rattle.std.proofs.Common.{◌≡◌, ◌≤◌, vec_len}
use Rattle.std.specs.Io.KnownBytes.{append_known}
use Rattle.mon_outside.proofs.buffered_sink.BufferedSink.hand_on.Given as goal

abbrev pub invariant-loop-self : goal.invariant-loop-self
invariant-loop-self g l = record {
  kept : append_known (g.K.Sink.written l.self-inside.inner) l.self-inside.held.items
      ≡ append_known (g.K.Sink.written l.initial.self-inside.inner) l.initial.self-inside.held.items;
  later : g.K.Sink.faults l.initial.self-inside.inner ≤ g.K.Sink.faults l.self-inside.inner;
}

abbrev pub decreases-loop-self : goal.decreases-loop-self
decreases-loop-self g l = vec_len l.self-inside.held
