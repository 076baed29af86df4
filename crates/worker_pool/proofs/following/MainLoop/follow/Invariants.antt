use Rattle.std.proofs.Common.{◌≡◌, ◌≤◌, ◌<◌, length}
use Rattle.mon_outside.specs.Views.{inputs_view, sink_view}
use Rattle.monitorable.specs.CoreForms.{CoreForm}
use Rattle.turn_hub.specs.Ends.{IsMainOf}
use Rattle.hub_threads.specs.Hands.{AreHandsOf}
use Rattle.main_steps.specs.{Changes.HaveCells, Changes.Suits, Writing.HasReadNothing}
use Rattle.worker_pool.specs.{Following.HasCome}
use Rattle.worker_pool.specs.{Following.loop_state}
use Rattle.worker_pool.proofs.following.MainLoop.follow.Given as goal

abbrev pub invariant-chunks : goal.invariant-chunks
invariant-chunks g l = record {
  same_context : l.self.context ≡ l.fn.self.context;
  same_log : l.self.log.ghost_name ≡ l.fn.self.log.ghost_name;
  same_inputs : l.self.inputs.ghost_name ≡ l.fn.self.inputs.ghost_name;
  same_out : l.self.out.ghost_name ≡ l.fn.self.out.ghost_name;
  same_driver : l.self.driver.ghost_name ≡ l.fn.self.driver.ghost_name;
  room : 0 < length l.self.buffer.now;
  main : IsMainOf l.self.context.now.hub.now l.self.driver.now.main;
  hands : AreHandsOf l.self.context.now.hub.now l.own.items;
  suits : Suits l.self.driver.now l.self.schedule.now;
  seated : HaveCells l.self.context.now.cells l.self.schedule.now;
  files : g.I.Inputs.files l.self.inputs.now ≡ g.I.Inputs.files l.fn.self.inputs.now;
  stays_open : g.I.Inputs.is_open l.self.inputs.now ≡ g.I.Inputs.is_open l.fn.self.inputs.now;
  asks_nothing : g.I.Inputs.asked l.self.inputs.now ≡ g.I.Inputs.asked l.fn.self.inputs.now;
  later : g.I.Inputs.faults l.fn.self.inputs.now ≤ g.I.Inputs.faults l.self.inputs.now;
  later_out : g.O.Sink.faults l.fn.self.out.now ≤ g.O.Sink.faults l.self.out.now;
  comes : (core : CoreForm) → HasReadNothing core l.fn.self.driver.now → HasCome (record {
    core = core;
    sig = l.fn.self.log.now.sig;
    limits = l.fn.self.log.now.limits;
    plan = l.fn.self.schedule.now.changes.items;
    before = inputs_view g.I.Inputs l.fn.self.inputs.now;
    old = sink_view g.O.Sink l.fn.self.out.now;
  }) (loop_state g.I.Inputs g.O.Sink l.self.driver.now l.self.schedule.now l.writer.tally l.self.log.now
      l.self.inputs.now l.self.out.now);
  can : (goal.iterator-chunks g).can_next l.iterator';
  finite : (goal.iterator-chunks g).is_finite l.iterator';
}
