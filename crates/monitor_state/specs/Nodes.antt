-- The nodes of a monitor: one for each part of the core that is evaluated by itself, operands first. A window that is
-- asked for rows has none of its own.
use Rattle.std.specs.Prelude.{◌&&◌, cond, List, [], ◌∷◌, ◌++◌}
use Rattle.monitorable.specs.CoreForms.{CoreForm, True, Compare, Not, And, Or, Exists}
use Rattle.monitorable.specs.CoreForms.{Previous, Next, Since, Until}
use Rattle.monitorable.specs.Fragment.{binds, is_conjunction, judges_not, under_not}
use Rattle.monitorable.specs.declared.role.Role.{Role}
use Rattle.monitorable.specs.declared.role.Role.TheVariants.{Whole, Part, Negated, Left}
use Rattle.core_arranging.specs.Arranging.{posed}
use Rattle.core_arranging.specs.Windows.{left_operand}
use Rattle.monitor_state.specs.Constants.{stands_alone}
use Rattle.monitor_nodes.specs.Operands.{filters}

-- cores without the last one
abbrev pub without_last : List CoreForm → List CoreForm
without_last [] = []
without_last (f ∷ []) = []
without_last (f ∷ g ∷ fs) = f ∷ without_last (g ∷ fs)

-- what TRUE is evaluated as in its role: FALSE on the left of SINCE or UNTIL
abbrev pub true_in : Role → CoreForm
true_in Left = left_operand True
true_in Whole = True
true_in Part = True
true_in Negated = True

-- the cores of the nodes of a core in its role, each behind its operands; a window that is asked for
-- rows has no node of its own
unfoldable pub nodes_in : Role → CoreForm → List CoreForm
nodes_in role True = true_in role ∷ []
nodes_in role (Compare c) = cond (stands_alone role (binds c)) (Compare c ∷ []) []
nodes_in role (Not f) = nodes_in (under_not role) f ++ cond (judges_not role) (Not f ∷ []) []
nodes_in role (And f g) =
    cond (is_conjunction role && filters f g)
    (nodes_in Whole f ++ without_last (nodes_in Part g) ++ And f g ∷ [])
    (nodes_in Part f ++ nodes_in Part g ++ cond (is_conjunction role) (And f g ∷ []) [])
nodes_in role (Or f g) = nodes_in Whole f ++ nodes_in Whole g ++ Or f g ∷ []
nodes_in role (Exists x f) = nodes_in Whole f ++ Exists x f ∷ []
nodes_in role (Previous i f) = nodes_in Whole f ++ Previous i f ∷ []
nodes_in role (Next i f) = nodes_in Whole f ++ Next i f ∷ []
nodes_in role (Since i f g) = nodes_in Left f ++ nodes_in Whole g ++ Since i f g ∷ []
nodes_in role (Until i f g) = nodes_in Left f ++ nodes_in Whole g ++ Until i f g ∷ []
nodes_in role f = f ∷ []

-- the cores of a core's nodes, the core itself last, as it is evaluated
abbrev pub nodes_of : CoreForm → List CoreForm
nodes_of f = nodes_in Whole (posed f)
