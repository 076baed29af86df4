-- Events in their order: by predicate, then by their values.
use Rattle.std.specs.Prelude.{ℕ, Bool, nat_eq, List}
use Rattle.std.specs.Cmp.{IsTotalOrder, nat_cmp_total, on_total, then_total}
use Rattle.std.specs.declared.cmp.Ordering.{Ordering}
use Rattle.std.specs.List.Sorted.{IsNonDecreasingBy}
use Rattle.std.specs.Ordering.{nat_cmp, on, then_cmp}
use Rattle.mfotl_model.specs.declared.event.Event.{Event}
use Rattle.mfotl_model.specs.Values.{row_cmp, row_total}

-- by predicate, then by the values
abbrev pub event_cmp : Event → Event → Ordering
event_cmp = then_cmp (on (λ e. e.pred) nat_cmp) (on (λ e. e.args) row_cmp)

-- it is a total order
pub event_total : IsTotalOrder event_cmp
event_total = then_total (on_total (λ e. e.pred) nat_cmp_total) (on_total (λ e. e.args) row_total)

-- whether the event is of the predicate
abbrev pub has_pred : ℕ → Event → Bool
has_pred pred event = nat_eq event.pred pred

-- events in the order of their predicates
abbrev pub StandByPred : List Event → Type 0
StandByPred events = IsNonDecreasingBy (λ e. e.pred) events
