use Rattle.std.proofs.Common.{◌≡◌, ◌≤◌, length}
use Rattle.monitor_state.specs.MonitorView.{monitor_of}
use Rattle.monitor_state.specs.Stands.{IsKept}
use Rattle.lone_worker.specs.{Alone.ForEachDebt, Alone.Owes}
use Rattle.lone_worker.proofs.lone_worker.LoneWorker.write_tables.Given as goal

abbrev pub invariant-loop-table : goal.invariant-loop-table
invariant-loop-table g l = record {
  same : monitor_of l.self.monitor ≡ monitor_of l.fn.self.monitor;
  kept : IsKept (monitor_of l.self.monitor).state l.point (length l.tables);
  owes : ForEachDebt (monitor_of l.fn.self.monitor).state (g.O.Sink.written l.fn.out) l.fn.self.writer.tally l.fn.first
      l.fn.tables (λ core points start. Owes core points start (monitor_of l.self.monitor).state
      (g.O.Sink.written l.out) l.self.writer.tally l.point l.tables);
  later : g.O.Sink.faults l.fn.out ≤ g.O.Sink.faults l.out;
}

abbrev pub decreases-loop-table : goal.decreases-loop-table
decreases-loop-table g l = length l.tables
