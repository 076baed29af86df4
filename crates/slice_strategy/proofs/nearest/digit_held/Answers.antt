use Rattle.std.proofs.Common.{arith}
use Rattle.slice_strategy.specs.{Entries.entry_of, SlicerLemmas.strategy_part_below}
use Rattle.slice_strategy.proofs.nearest.digit_held.Goals as goal

pub returns-in-Some-clause-low : goal.returns-in-Some-clause-low
returns-in-Some-clause-low c =
    let low = strategy_part_below (entry_of c.args.entry.now) c.in-Some.value.now c.requires.some in
    omega (arith, low, c.part.ensures)
