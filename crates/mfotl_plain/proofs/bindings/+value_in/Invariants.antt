use Rattle.std.proofs.Common.{length}
use Rattle.mfotl_plain.proofs.bindings.+value_in.Given as goal

abbrev pub decreases-value_in : goal.decreases-value_in
decreases-value_in l = length l.columns.now
