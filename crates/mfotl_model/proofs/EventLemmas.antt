-- Databases that keep their events by predicate.
use Rattle.std.proofs.Common.{◌≡◌, ℕ, Bool, List, [], ◌∷◌, ◌++◌, sym}
use Rattle.std.proofs.lemmas.List.Sorted.{IsPermutation-insert}
use Rattle.std.specs.{BTreeSet.insert_key, List.Sorted.IsPermutation}
use Rattle.std.specs.List.{filter, insert, list_any}
use Rattle.mfotl_model.proofs.AscendingLemmas.{any_ascending, filter_ascending, insert_behind, moved_ascending}
use Rattle.mfotl_model.proofs.RowLemmas.{event_exact}
use Rattle.mfotl_model.specs.Ascending.{ascending}
use Rattle.mfotl_model.specs.Events.{event_cmp, event_total, has_pred}
use Rattle.mfotl_model.specs.declared.event.Event.{Event}

-- one more event behind is one that was put in its place
pub event_behind : (events : List Event) (event : Event)
    → ascending event_cmp (events ++ event ∷ []) ≡ insert_key event_cmp (ascending event_cmp events) event
event_behind events event = sym (insert_behind event_total event_exact events event)

-- and so is one more event anywhere among them
pub event_among : (events : List Event) (place : ℕ) (event : Event)
    → ascending event_cmp (insert events place event) ≡ insert_key event_cmp (ascending event_cmp events) event
event_among events place event =
    moved_ascending event_total event_exact (event ∷ events) (insert events place event)
    (IsPermutation-insert events place event)

-- events that were moved are the same set
pub events_moved : (events moved : List Event) → IsPermutation events moved
    → ascending event_cmp moved ≡ ascending event_cmp events
events_moved events moved same = moved_ascending event_total event_exact events moved same

-- the events that pass a test among some are those of their set
pub events_filtered : (p : Event → Bool) (events : List Event)
    → ascending event_cmp (filter p events) ≡ filter p (ascending event_cmp events)
events_filtered p events = filter_ascending event_total event_exact p events

-- the events of a predicate among some are those of their set
pub events_of_pred : (pred : ℕ) (events : List Event)
    → ascending event_cmp (filter (has_pred pred) events) ≡ filter (has_pred pred) (ascending event_cmp events)
events_of_pred pred events = events_filtered (has_pred pred) events

-- a test finds among the events in order what it finds among them
pub any_event : (p : Event → Bool) (events : List Event) → list_any p (ascending event_cmp events) ≡ list_any p events
any_event p events = any_ascending event_total event_exact p events
