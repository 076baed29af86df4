use Rattle.std.proofs.Common.{◌≡◌, ◌++◌, drop}
use Rattle.std.specs.List.{flat_map}
use Rattle.mfotl_model.specs.ActiveDomain.{constant_in}
use Rattle.mfotl_plain.proofs.domain.push_all_constants.Given as goal

abbrev pub invariant-loop-term : goal.invariant-loop-term
invariant-loop-term l =
    l.values.items ++ flat_map constant_in (drop l.term-index l.terms)
    ≡ l.fn.values.items ++ flat_map constant_in l.terms
