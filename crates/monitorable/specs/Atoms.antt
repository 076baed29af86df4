-- The atoms of a core.
use Rattle.std.specs.Prelude.{List, [], ◌∷◌, ◌++◌}
use Rattle.monitorable.specs.CoreForms.{CoreForm, True, False, Atom, Compare, Not, And, Or, Exists, Previous, Next}
use Rattle.monitorable.specs.CoreForms.{Since, Until}
use Rattle.mfotl_model.specs.declared.term.Atom.{Atom as OneAtom}

-- the atoms of a core, from left to right, as often as they stand there
unfoldable pub atoms_of : CoreForm → List OneAtom
atoms_of True = []
atoms_of False = []
atoms_of (Atom atom) = atom ∷ []
atoms_of (Compare c) = []
atoms_of (Not f) = atoms_of f
atoms_of (And f g) = atoms_of f ++ atoms_of g
atoms_of (Or f g) = atoms_of f ++ atoms_of g
atoms_of (Exists x f) = atoms_of f
atoms_of (Previous interval f) = atoms_of f
atoms_of (Next interval f) = atoms_of f
atoms_of (Since interval f g) = atoms_of f ++ atoms_of g
atoms_of (Until interval f g) = atoms_of f ++ atoms_of g
