use Rattle.std.proofs.Common.{◌≡◌, ◌++◌, length, map}
use Rattle.std.specs.List.{AllByRecursion}
use Rattle.monitor_state.specs.MonitorView.{monitor_of}
use Rattle.monitor_state.specs.Stands.{IsKept}
use Rattle.rescale_worker.specs.Settlings.{HasWidth, IsTabled, all_settled, row_out}
use Rattle.rescale_worker.proofs.settled.give_tables.Given as goal

abbrev pub invariant-loop-table : goal.invariant-loop-table
invariant-loop-table l = record {
  kept : IsKept (monitor_of l.monitor).state l.point (length l.tables);
  wide : AllByRecursion (HasWidth (length l.strategy)) (all_settled (monitor_of l.monitor).state l.point l.tables);
  tabled : AllByRecursion IsTabled (all_settled (monitor_of l.monitor).state l.point l.tables)
      → AllByRecursion IsTabled (all_settled (monitor_of l.monitor).state l.fn.first l.fn.tables);
  given : l.outs.items
      ++ map (row_out l.strategy l.worker l.generation) (all_settled (monitor_of l.monitor).state l.point l.tables)
      ≡ l.fn.outs.items
      ++ map (row_out l.strategy l.worker l.generation)
      (all_settled (monitor_of l.monitor).state l.fn.first l.fn.tables);
}

abbrev pub decreases-loop-table : goal.decreases-loop-table
decreases-loop-table l = length l.tables
