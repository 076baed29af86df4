-- What events give to atoms, and the workers that it is near to.
use Rattle.std.specs.Prelude.{ℕ, Bool, List, map, Option, Some, None, min}
use Rattle.std.specs.List.{filter, flat_map, list_any}
use Rattle.mfotl_model.specs.FreeVariables.{variable_in}
use Rattle.mfotl_model.specs.Matching.{is_match, reads}
use Rattle.mfotl_model.specs.Regions.{Region}
use Rattle.mfotl_model.specs.Tables.{valuation}
use Rattle.mfotl_model.specs.declared.event.Event.{Event}
use Rattle.mfotl_model.specs.declared.term.Atom.{Atom as OneAtom}
use Rattle.mfotl_model.specs.declared.value.Value.{Value}

-- the variables of an atom, as often as they stand there, and the value of each
pub record ReadingOf : Type 0 where
  pub columns : List ℕ
  pub row : List Value

-- what the event gives to the variables of the atom
abbrev pub reading_of : Event → OneAtom → ReadingOf
reading_of event atom =
    record {
      columns = flat_map variable_in atom.args;
      row = map (reads atom event) (flat_map variable_in atom.args);
    }

-- what the event gives to those of the atoms that stand for it
unfoldable pub readings_of : List OneAtom → Event → List ReadingOf
readings_of atoms event = map (reading_of event) (filter (λ atom. is_match atom event) atoms)

-- whether the row is near
abbrev pub is_near : Region → ReadingOf → Bool
is_near near r = near r.columns (valuation r.columns r.row)

-- whether something that the event gives is near
abbrev pub some_near : List ReadingOf → Region → Bool
some_near readings near = list_any (is_near near) readings

-- the lesser of what was found
abbrev pub earlier : Option ℕ → Option ℕ → Option ℕ
earlier None found = found
earlier (Some a) None = Some a
earlier (Some a) (Some b) = Some (min a b)
