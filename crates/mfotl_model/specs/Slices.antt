-- Slices: the events of a database that the rows of a region can see.
use Rattle.std.specs.Prelude.{◌≡◌, Bool, true, ◌&&◌, List}
use Rattle.std.specs.List.{list_any, filter}
use Rattle.mfotl_model.specs.FreeVariables.{variables_in}
use Rattle.mfotl_model.specs.Matching.{is_match, reads}
use Rattle.mfotl_model.specs.Regions.{Region}
use Rattle.mfotl_model.specs.Satisfaction.{has_event}
use Rattle.mfotl_model.specs.declared.event.Event.{Event}
use Rattle.mfotl_model.specs.declared.term.Atom.{Atom as OneAtom}

-- whether the atom stands for the event, and the row that it reads off is near
abbrev pub sees : Region → Event → OneAtom → Bool
sees near event atom =
    is_match atom event && near (variables_in atom.args) (reads atom event)

-- the events that some of the atoms sees
abbrev pub slice : Region → List OneAtom → List Event → List Event
slice near atoms db = filter (λ event. list_any (sees near event) atoms) db

-- the database has each of the events
abbrev pub HasEach : List Event → List Event → Type 0
HasEach db events = (e : Event) → has_event events e ≡ true → has_event db e ≡ true
