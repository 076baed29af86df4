use Rattle.std.proofs.Common.{◌≡◌, replicate}
use Rattle.mfotl_model.specs.Strategies.Entry.{Uncut}
use Rattle.slice_strategy.specs.Entries.{entries_of}
use Rattle.slice_strategy.proofs.reading.uncut.Given as goal

abbrev pub invariant-loop : goal.invariant-loop
invariant-loop l = entries_of l.entries.items ≡ replicate l.counter Uncut
