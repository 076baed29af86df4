use Rattle.std.proofs.Common.{◌≡◌, ◌++◌, drop}
use Rattle.std.specs.List.{flat_map}
use Rattle.mfotl_model.specs.FreeVariables.{variable_in}
use Rattle.event_splitter.proofs.reading.variables.Given as goal

abbrev pub invariant-loop-term : goal.invariant-loop-term
invariant-loop-term l = l.vars.items ++ flat_map variable_in (drop l.term-index l.terms) ≡ flat_map variable_in l.terms
