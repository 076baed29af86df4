-- Worked examples: the parts of a time-point.
use Rattle.std.specs.Prelude.{◌≡◌, List, [], ◌∷◌, pos}
use Rattle.mfotl_model.specs.Regions.{near_of}
use Rattle.mfotl_model.specs.Samples.{of, point}
use Rattle.mfotl_model.specs.Strategies.Entry.{Cut}
use Rattle.mfotl_model.specs.declared.term.Atom.{Atom as OneAtom}
use Rattle.mfotl_model.specs.declared.term.Term.TheVariants.{Var}
use Rattle.event_splitter.specs.Parts.{parts_for}

-- the atoms p(y), p(x) and q(x), where x is free and numbered 0
abbrev pub atoms : List OneAtom
atoms =
    record { pred = 0; args = Var 1 ∷ [] } ∷ record { pred = 0; args = Var 0 ∷ [] }
    ∷ record { pred = 1; args = Var 0 ∷ [] } ∷ []

-- Where x is cut at 10, the first worker gets p(3) and q(3). The second has the values from 10 on, and
-- gets p(3) alone, since y may have any value.
abbrev pub CutInTwo : Type 0
CutInTwo =
    parts_for 2 (near_of (Cut (pos 10 ∷ []) ∷ [])) atoms (point 7 (of 0 3 ∷ of 1 3 ∷ []))
    ≡ point 7 (of 0 3 ∷ of 1 3 ∷ []) ∷ point 7 (of 0 3 ∷ []) ∷ []
