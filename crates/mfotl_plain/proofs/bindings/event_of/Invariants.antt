use Rattle.std.proofs.Common.{◌≡◌, take}
use Rattle.std.specs.Prelude.{map}
use Rattle.mfotl_plain.specs.Bindings.{valuation_of}
use Rattle.mfotl_model.specs.Satisfaction.{term_value}
use Rattle.mfotl_plain.proofs.bindings.event_of.Given as goal

abbrev pub invariant-loop-term : goal.invariant-loop-term
invariant-loop-term l =
    l.args.items ≡ map (term_value (valuation_of l.bindings)) (take l.term-index l.term-items)
