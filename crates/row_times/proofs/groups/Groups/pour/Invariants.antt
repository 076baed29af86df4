use Rattle.std.proofs.Common.{◌≡◌, List}
use Rattle.std.specs.Option.{option_or}
use Rattle.mfotl_model.specs.declared.value.Value.{Value}
use Rattle.relations.specs.KeptRows.{kept_for}
use Rattle.row_times.specs.KeptTimes.{first_times}
use Rattle.row_times.proofs.groups.Groups.pour.Given as goal

abbrev pub invariant-loop-group : goal.invariant-loop-group
invariant-loop-group l = (u : List Value) →
    option_or (kept_for l.out u) (first_times l.group-iterator u)
    ≡ option_or (kept_for l.fn.out u) (first_times l.fn.self u)
