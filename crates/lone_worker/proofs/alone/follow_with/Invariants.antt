use Rattle.std.proofs.Common.{◌≡◌, ◌≤◌, ◌<◌, length}
use Rattle.mon_outside.specs.Views.{inputs_view, sink_view}
use Rattle.monitorable.specs.CoreForms.{CoreForm}
use Rattle.lone_worker.specs.{Alone.HasTakenNone, FollowingAlone.HasComeAlone, FollowingAlone.alone_state}
use Rattle.lone_worker.proofs.alone.follow_with.Given as goal

abbrev pub invariant-chunks : goal.invariant-chunks
invariant-chunks g l = record {
  room : 0 < length l.buffer;
  files : g.I.Inputs.files l.inputs ≡ g.I.Inputs.files l.fn.inputs;
  stays_open : g.I.Inputs.is_open l.inputs ≡ g.I.Inputs.is_open l.fn.inputs;
  asks_nothing : g.I.Inputs.asked l.inputs ≡ g.I.Inputs.asked l.fn.inputs;
  later : g.I.Inputs.faults l.fn.inputs ≤ g.I.Inputs.faults l.inputs;
  later_out : g.O.Sink.faults l.fn.out ≤ g.O.Sink.faults l.out;
  comes : (core : CoreForm) → HasTakenNone core l.fn.worker.monitor l.fn.worker.writer.tally → HasComeAlone (record {
    core = core;
    sig = l.fn.log.sig;
    limits = l.fn.log.limits;
    before = inputs_view g.I.Inputs l.fn.inputs;
    old = sink_view g.O.Sink l.fn.out;
  }) (alone_state g.I.Inputs g.O.Sink l.worker.monitor l.worker.writer.tally l.log l.inputs l.out);
}
