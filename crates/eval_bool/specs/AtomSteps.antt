-- The rows that the events give to the variables of an atom.
use Rattle.std.specs.Prelude.{ℕ, List}
use Rattle.mfotl_model.specs.declared.value.Value.{Value}
use Rattle.mfotl_model.specs.Matching.{matching_rows}
use Rattle.mfotl_model.specs.declared.event.Event.{Event}
use Rattle.mfotl_model.specs.declared.term.Atom.{Atom as OneAtom}

-- the rows over the columns that are read off the events which the atom stands for
unfoldable pub atom_rows : OneAtom → List ℕ → List Event → List (List Value)
atom_rows atom columns events = matching_rows (record { atom = atom; columns = columns }) events
