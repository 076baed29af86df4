-- The events and the time-points that the demo draws, and how they are written in its log.
use Rattle.std.specs.Prelude.{ℕ, zero, suc, ◌+◌, List, [], ◌∷◌, ◌++◌, codes, nat_lt, ◌==◌, if◌then◌else◌}
use Rattle.std.specs.Fmt.{decimal}
use Rattle.std.specs.List.{flat_map}
use Rattle.log_reader.specs.declared.demo_event.Person.{Person}
use Rattle.log_reader.specs.declared.demo_event.Person.TheVariants.{Ann, Bob, Cat, Dan, Eve}
use Rattle.log_reader.specs.declared.demo_event.DemoEvent.{DemoEvent}
use Rattle.log_reader.specs.declared.demo_event.DemoEvent.TheVariants.{Request, Grant, Drop}
use Rattle.log_reader.specs.DemoDraws.{drawn, moved_on}

-- ---- an event

-- the person at a place from 0 to 4
abbrev pub person_at : ℕ → Person
person_at place =
    if place == 0 then Ann
    else if place == 1 then Bob
    else if place == 2 then Cat
    else if place == 3 then Dan
    else Eve

-- the event of a kind from 0 to 7 and of an identity; who asks is drawn behind s
abbrev pub event_of_kind : ℕ → ℕ → ℕ → DemoEvent
event_of_kind kind id s =
    if nat_lt kind 4 then Request id (person_at (drawn 5 s))
    else if nat_lt kind 7 then Grant id
    else Drop id

-- the event that is drawn behind s: its kind, its identity, and who asks
abbrev pub event_behind : ℕ → DemoEvent
event_behind s = event_of_kind (drawn 8 s) (drawn 100 (moved_on s)) (moved_on (moved_on s))

-- how far its draws move s on: two for each event, and one more for a request
abbrev pub state_behind : ℕ → ℕ
state_behind s =
    if nat_lt (drawn 8 s) 4 then moved_on (moved_on (moved_on s)) else moved_on (moved_on s)

-- ---- a time-point

-- so many events, drawn one after another
unfoldable pub events_behind : ℕ → ℕ → List DemoEvent
events_behind zero s = []
events_behind (suc count) s = event_behind s ∷ events_behind count (state_behind s)

-- how far their draws move s on
unfoldable pub state_behind_all : ℕ → ℕ → ℕ
state_behind_all zero s = s
state_behind_all (suc count) s = state_behind_all count (state_behind s)

-- a time-point that was drawn
pub record Moment : Type 0 where
  pub time : ℕ
  pub events : List DemoEvent

-- so many time-points behind one of this time, drawn one after another: how much later each is, how many
-- events it has, and its events
unfoldable pub moments : ℕ → ℕ → ℕ → List Moment
moments zero time s = []
moments (suc count) time s =
    let now = time + drawn 4 s in
    let many = drawn 6 (moved_on s) in
    let behind = moved_on (moved_on s) in
    record { time = now; events = events_behind many behind } ∷ moments count now (state_behind_all many behind)

-- ---- how they are written

-- a person's name
abbrev pub name_of : Person → List ℕ
name_of Ann = codes "ann"
name_of Bob = codes "bob"
name_of Cat = codes "cat"
name_of Dan = codes "dan"
name_of Eve = codes "eve"

-- an event behind a space
abbrev pub written : DemoEvent → List ℕ
written (Request id who) = codes " req(" ++ decimal id ++ codes "," ++ name_of who ++ codes ")"
written (Grant id) = codes " grant(" ++ decimal id ++ codes ")"
written (Drop id) = codes " drop(" ++ decimal id ++ codes ")"

-- the line of a time-point
abbrev pub line_of : Moment → List ℕ
line_of m = codes "@" ++ decimal m.time ++ flat_map written m.events ++ codes ";\n"
