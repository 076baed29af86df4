use Rattle.std.proofs.Common.{◌≡◌, List, drop}
use Rattle.std.specs.Option.{option_or}
use Rattle.mfotl_model.specs.declared.value.Value.{Value}
use Rattle.relations.specs.KeptRows.{first_filled, kept_for}
use Rattle.row_times.proofs.few.FewRows.pour.Given as goal

abbrev pub invariant-loop-row : goal.invariant-loop-row
invariant-loop-row l = (u : List Value) →
    option_or (kept_for l.out u) (first_filled (drop l.row-index l.row-items) u)
    ≡ option_or (kept_for l.fn.out u) (first_filled l.fn.self u)
