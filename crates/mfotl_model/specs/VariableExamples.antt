-- Worked examples: the free variables and the constants of each operator.
use Rattle.std.specs.Prelude.{◌≡◌, List, [], ◌∷◌, map, codes}
use Rattle.mfotl_model.specs.ActiveDomain.{adom, constants}
use Rattle.mfotl_model.specs.Formulas.{Form}
use Rattle.mfotl_model.specs.Formulas.Form.{True, False, Compare, Not, And, Or, Implies, Equiv, Exists, Forall}
use Rattle.mfotl_model.specs.Formulas.Form.{Previous, Next, Once, Historically, Eventually, Always, Since, Until}
use Rattle.mfotl_model.specs.FreeVariables.{fv}
use Rattle.mfotl_model.specs.Samples.{at, bound, event, from, int, of, point}
use Rattle.mfotl_model.specs.declared.term.Sign.TheVariants.{Less}
use Rattle.mfotl_model.specs.declared.term.Term.TheVariants.{Const, Var}
use Rattle.mfotl_model.specs.declared.value.Value.TheVariants.{Text}

-- an atom with variables 2 and 1, one of them twice, and a constant
abbrev pub atom : Form
atom = at 0 (Var 2 ∷ Const (int 5) ∷ Var 1 ∷ Var 2 ∷ [])

-- a comparison of variables, one of them the atom's
abbrev pub compared : Form
compared = Compare (record { sign = Less; left = Var 1; right = Var 0 })

-- one of constants
abbrev pub compared_constants : Form
compared_constants = Compare (record { sign = Less; left = Const (int 7); right = Const (Text (codes "t")) })

-- all operators of two operands
abbrev pub of_two : Form → Form → List Form
of_two f g =
    And f g ∷ Or f g ∷ Implies f g ∷ Equiv f g ∷ Since (from 0) f g ∷ Until (from 0) f g ∷ []

-- all operators of one operand that bind nothing
abbrev pub of_one : Form → List Form
of_one f =
    Not f ∷ Previous (from 0) f ∷ Next (from 0) f ∷ Once (from 0) f ∷ Historically (from 0) f
    ∷ Eventually (from 0) f ∷ Always (from 0) f ∷ []

-- each variable once, by its first occurrence, but for those that a quantifier binds
abbrev pub FreeVariables : Type 0
FreeVariables =
    (map fv (True ∷ False ∷ atom ∷ compared ∷ [])
    ≡ [] ∷ [] ∷ (2 ∷ 1 ∷ []) ∷ (1 ∷ 0 ∷ []) ∷ [])
    × (map fv (of_two atom compared) ≡ map (λ f. 2 ∷ 1 ∷ 0 ∷ []) (of_two atom compared))
    × (map fv (of_one atom) ≡ map (λ f. 2 ∷ 1 ∷ []) (of_one atom))
    × (map fv (Exists (bound 2) atom ∷ Forall (bound 2) atom ∷ []) ≡ (1 ∷ []) ∷ (1 ∷ []) ∷ [])

-- the constants as they stand
abbrev pub Constants : Type 0
Constants =
    (map constants (True ∷ False ∷ atom ∷ compared_constants ∷ [])
    ≡ [] ∷ [] ∷ (int 5 ∷ []) ∷ (int 7 ∷ Text (codes "t") ∷ []) ∷ [])
    × (map constants (of_two atom compared_constants)
    ≡ map (λ f. int 5 ∷ int 7 ∷ Text (codes "t") ∷ []) (of_two atom compared_constants))
    × (map constants (of_one atom) ≡ map (λ f. int 5 ∷ []) (of_one atom))
    × (map constants (Exists (bound 2) atom ∷ Forall (bound 2) atom ∷ []) ≡ (int 5 ∷ []) ∷ (int 5 ∷ []) ∷ [])

-- the values of all events and the constants, in ascending order, each once
abbrev pub ActiveDomains : Type 0
ActiveDomains =
    adom (point 1 (event 3 (int 9 ∷ int 5 ∷ []) ∷ []) ∷ point 2 (of 0 8 ∷ []) ∷ []) (And atom compared_constants)
    ≡ int 5 ∷ int 7 ∷ int 8 ∷ int 9 ∷ Text (codes "t") ∷ []
