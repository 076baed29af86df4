-- What the fragment gives each part of a core: all that evaluating it relies on.
use Rattle.std.specs.Prelude.{◌≡◌, ℕ, true, false, None}
use Rattle.mfotl_model.specs.ActiveDomain.{constants}
use Rattle.mfotl_model.specs.Domains.{Includes}
use Rattle.mfotl_model.specs.FreeVariables.{fv, among}
use Rattle.monitorable.specs.CoreForms.{CoreForm, meaning, True, False, Atom, Compare, Not, And, Or, Exists, Previous}
use Rattle.monitorable.specs.CoreForms.{Next, Since, Until}
use Rattle.monitorable.specs.Fragment.{Names, frag}

-- each free variable of f is one of g
abbrev pub HasVariablesOf : CoreForm → CoreForm → Type 0
HasVariablesOf g f = (y : ℕ) → among y (fv (meaning f)) ≡ true → among y (fv (meaning g)) ≡ true

-- Of a part f of the whole core, and of each part of it: the sides of OR have the same variables; EXISTS binds no
-- free variable of the whole and one of what follows, which the fragment accepts, and whose constants are the
-- whole's; the right operand of SINCE and UNTIL has the variables of the left one.
abbrev pub IsWellFormedIn : CoreForm → CoreForm → Type 0
IsWellFormedIn whole True = Unit {0}
IsWellFormedIn whole False = Unit {0}
IsWellFormedIn whole (Atom atom) = Unit {0}
IsWellFormedIn whole (Compare c) = Unit {0}
IsWellFormedIn whole (Not f) = IsWellFormedIn whole f
IsWellFormedIn whole (And f g) = IsWellFormedIn whole f × IsWellFormedIn whole g
IsWellFormedIn whole (Or f g) =
    HasVariablesOf g f × HasVariablesOf f g × IsWellFormedIn whole f × IsWellFormedIn whole g
IsWellFormedIn whole (Exists x f) =
    (among x.number (fv (meaning whole)) ≡ false)
    × (among x.number (fv (meaning f)) ≡ true)
    × ((names : Names) × (frag names f ≡ None))
    × Includes (constants (meaning whole)) (constants (meaning f))
    × IsWellFormedIn whole f
IsWellFormedIn whole (Previous interval f) = IsWellFormedIn whole f
IsWellFormedIn whole (Next interval f) = IsWellFormedIn whole f
IsWellFormedIn whole (Since interval f g) = HasVariablesOf g f × IsWellFormedIn whole f × IsWellFormedIn whole g
IsWellFormedIn whole (Until interval f g) = HasVariablesOf g f × IsWellFormedIn whole f × IsWellFormedIn whole g
