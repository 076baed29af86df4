use Rattle.std.proofs.Common.{◌≡◌, ◌≤◌, ◌++◌}
use Rattle.rescale_core.specs.Cells.{AreWithin}
use Rattle.rescale_core.proofs.machine_start.all_left.Given as goal

abbrev pub invariant-loop-entry : goal.invariant-loop-entry
invariant-loop-entry l = record {
  left : l.left.items ++ l.entry-iterator.rest.items ≡ l.fn.entries.items;
  wide : l.first ≤ l.most;
  within : AreWithin l.most l.left.items;
}
