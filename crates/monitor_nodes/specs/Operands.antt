-- The cores whose tables a core's node takes. A conjunction is one node with all its conjuncts; but where its right
-- side is a window that is asked for the rows of its left side alone, the node has the left side and the window's
-- operands. TRUE on the left of a window, which each ONCE and EVENTUALLY has, is evaluated as NOT FALSE: the window
-- takes FALSE's tables, which have no rows and so take no memory.
use Rattle.std.specs.Prelude.{Bool, true, false, not, ◌&&◌, ◌||◌, cond, List, [], ◌∷◌}
use Rattle.std.specs.List.{list_any}
use Rattle.mfotl_model.specs.FreeVariables.{among, fv}
use Rattle.mfotl_model.specs.Tables.{all_among}
use Rattle.monitorable.specs.Conjuncts.{PartForm, conjuncts_of}
use Rattle.monitorable.specs.Conjuncts.PartForm.{Child, Test}
use Rattle.monitorable.specs.CoreForms.{CoreForm, meaning, True, Not, And, Or, Exists, Previous, Next, Since}
use Rattle.monitorable.specs.CoreForms.{Until}
use Rattle.monitorable.specs.Fragment.{bound_by}
use Rattle.core_arranging.specs.Windows.{is_window, left_operand}

-- the cores that are evaluated for conjuncts; a comparison that is tested is none
abbrev pub children : List PartForm → List CoreForm
children [] = []
children (Child f negated ∷ parts) = f ∷ children parts
children (Test c wanted ∷ parts) = children parts

-- whether a left operand, or a window that is asked for rows, has a NOT
abbrev pub is_negated : CoreForm → Bool
is_negated True = true
is_negated (Not f) = true
is_negated f = false

-- the cores whose tables a window takes, from left to right
abbrev pub window_operands : CoreForm → List CoreForm
window_operands (Since i f g) = left_operand f ∷ g ∷ []
window_operands (Until i f g) = left_operand f ∷ g ∷ []
window_operands f = []

-- whether g has no variables but those that f binds
abbrev pub adds_none : CoreForm → CoreForm → Bool
adds_none f g = all_among (fv (meaning g)) (bound_by f)

-- whether g, no NOT, can be asked for the values that f, which binds all its variables, has of some of its
-- variables
abbrev pub is_keyed : CoreForm → CoreForm → Bool
is_keyed f g =
    not (is_negated g)
    && (all_among (fv (meaning f)) (bound_by f) && list_any (λ y. among y (bound_by f)) (fv (meaning g)))

-- whether of a conjunction of f and g the second one is asked for the first one's rows alone: it is a window, or
-- the NOT of one, that only filters these rows, or it is a window that can be asked by some of their values
abbrev pub filters : CoreForm → CoreForm → Bool
filters f g = is_window (left_operand g) && (adds_none f g || is_keyed f g)

-- the cores whose tables a core's node takes, from left to right
abbrev pub operands : CoreForm → List CoreForm
operands (Not f) = children (conjuncts_of (Not f))
operands (And f g) =
    cond (filters f g) (f ∷ window_operands (left_operand g)) (children (conjuncts_of (And f g)))
operands (Or f g) = f ∷ g ∷ []
operands (Exists x f) = f ∷ []
operands (Previous i f) = f ∷ []
operands (Next i f) = f ∷ []
operands (Since i f g) = left_operand f ∷ g ∷ []
operands (Until i f g) = left_operand f ∷ g ∷ []
operands f = []
