use Rattle.std.proofs.Common.{◌≡◌, take}
use Rattle.mfotl_model.specs.{ActiveDomain.log_values, Ascending.ascending, Values.value_cmp}
use Rattle.mfotl_plain.proofs.domain.values_of_log.Given as goal

abbrev pub invariant-loop-point : goal.invariant-loop-point
invariant-loop-point l =
    ascending value_cmp l.values.items ≡ ascending value_cmp (log_values (take l.point-index l.log))
