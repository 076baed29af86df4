use Rattle.std.proofs.Common.{◌≡◌, ◌++◌, drop}
use Rattle.mfotl_plain.proofs.domain.push_values.Given as goal

abbrev pub invariant-loop-value : goal.invariant-loop-value
invariant-loop-value l = l.values.items ++ drop l.value-index l.more ≡ l.fn.values.items ++ l.more
