-- What the demo's log stands for: the time-points that are drawn.
use Rattle.std.specs.Prelude.{◌≡◌, ℕ, List, [], ◌∷◌, map, codes, pos, Ok}
use Rattle.std.specs.BTreeSet.{insert_key}
use Rattle.mfotl_model.specs.Events.{event_cmp}
use Rattle.mfotl_model.specs.declared.event.Event.{Event}
use Rattle.mfotl_model.specs.declared.event.TimePoint.{TimePoint}
use Rattle.mfotl_model.specs.declared.policy.Sort.TheVariants as sorts
use Rattle.mfotl_model.specs.declared.value.Value.TheVariants.{Int, Text}
use Rattle.mfotl_sig.specs.Preds.{PredOf}
use Rattle.mfotl_sig.specs.Reading.{reading}
use Rattle.log_reader.specs.declared.demo_event.DemoEvent.{DemoEvent}
use Rattle.log_reader.specs.declared.demo_event.DemoEvent.TheVariants.{Request, Grant, Drop}
use Rattle.log_reader.specs.DemoEvents.{Moment, moments, name_of}
use Rattle.log_reader.specs.DemoTexts.{log_text, signature_text}
use Rattle.log_reader.specs.Limits.{standard}
use Rattle.log_reader.specs.Readings.{NoFault, accepted}

-- requests by an identity and a name, grants and drops by an identity
abbrev pub demo_preds : List PredOf
demo_preds =
    record { number = 0; name = codes "req"; sorts = sorts.Int ∷ sorts.Text ∷ [] }
    ∷ record { number = 1; name = codes "grant"; sorts = sorts.Int ∷ [] }
    ∷ record { number = 2; name = codes "drop"; sorts = sorts.Int ∷ [] } ∷ []

-- the event that an event of the demo stands for
abbrev pub event_of_demo : DemoEvent → Event
event_of_demo (Request id who) = record { pred = 0; args = Int (pos id) ∷ Text (name_of who) ∷ [] }
event_of_demo (Grant id) = record { pred = 1; args = Int (pos id) ∷ [] }
event_of_demo (Drop id) = record { pred = 2; args = Int (pos id) ∷ [] }

-- the events that some stand for, put with those before; equal events are one
abbrev pub events_of : List Event → List DemoEvent → List Event
events_of before [] = before
events_of before (e ∷ events) = events_of (insert_key event_cmp before (event_of_demo e)) events

-- the time-point that is drawn
abbrev pub point_of : Moment → TimePoint
point_of m = record { ts = m.time; db = events_of [] m.events }

-- the signature is read, and has these predicates
abbrev pub DemoSignatureIsAccepted : Type 0
DemoSignatureIsAccepted = reading signature_text ≡ Ok demo_preds

-- the log of each seed is read to its end, and its time-points are those that are drawn
abbrev pub DemoLogIsAccepted : Type 0
DemoLogIsAccepted = (seed : ℕ) → accepted demo_preds standard (log_text seed)
    ≡ record { points = map point_of (moments 2000 0 seed); ending = NoFault }
