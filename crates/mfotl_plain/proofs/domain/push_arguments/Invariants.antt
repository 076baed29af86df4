use Rattle.std.proofs.Common.{◌≡◌, ◌++◌, drop}
use Rattle.std.specs.List.{flat_map}
use Rattle.mfotl_model.specs.declared.event.Event.{Event}
use Rattle.mfotl_plain.proofs.domain.push_arguments.Given as goal

abbrev pub invariant-loop-event : goal.invariant-loop-event
invariant-loop-event l =
    l.values.items ++ flat_map (λ (event : Event). event.args) (drop l.event-index l.events)
    ≡ l.fn.values.items ++ flat_map (λ (event : Event). event.args) l.events
