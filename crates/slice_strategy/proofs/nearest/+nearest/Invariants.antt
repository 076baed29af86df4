use Rattle.std.proofs.Common.{length}
use Rattle.slice_strategy.proofs.nearest.+nearest.Given as goal

abbrev pub decreases-nearest : goal.decreases-nearest
decreases-nearest l = length l.entries.now
