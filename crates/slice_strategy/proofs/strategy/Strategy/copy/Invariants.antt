use Rattle.std.proofs.Common.{◌≡◌, take}
use Rattle.slice_strategy.specs.Entries.{entries_of}
use Rattle.slice_strategy.proofs.strategy.Strategy.copy.Given as goal

abbrev pub invariant-loop-entry : goal.invariant-loop-entry
invariant-loop-entry l = entries_of l.entries.items ≡ entries_of (take l.entry-index l.self-inside.entries.items)
