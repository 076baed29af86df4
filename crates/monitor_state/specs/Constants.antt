-- Conjuncts that are the same at each position.
use Rattle.std.specs.Prelude.{Bool, true, false, ◌&&◌, ◌||◌}
use Rattle.mfotl_model.specs.declared.term.Comparison.{Comparison}
use Rattle.mfotl_model.specs.declared.term.Term.{Term}
use Rattle.mfotl_model.specs.declared.term.Term.TheVariants.{Var, Const}
use Rattle.monitorable.specs.Conjuncts.{PartForm}
use Rattle.monitorable.specs.Conjuncts.PartForm.{Child, Test}
use Rattle.monitorable.specs.Fragment.{binds}
use Rattle.monitorable.specs.declared.role.Role.{Role}
use Rattle.monitorable.specs.declared.role.Role.TheVariants.{Whole, Part, Negated, Left}

-- whether a term is a constant
abbrev pub is_constant : Term → Bool
is_constant (Var x) = false
is_constant (Const a) = true

-- whether a comparison is one of constants
abbrev pub is_ground : Comparison → Bool
is_ground c = is_constant c.left && is_constant c.right

-- whether a comparison has a table by itself: an equation of a variable with a constant, or one of constants
abbrev pub is_fixed : Comparison → Bool
is_fixed c = binds c || is_ground c

-- whether a comparison is a node by itself: one that is judged so, and an equation with a constant among
-- conjuncts
abbrev pub stands_alone : Role → Bool → Bool
stands_alone Whole binding = true
stands_alone Part binding = binding
stands_alone Negated binding = false
stands_alone Left binding = true

-- whether a conjunct is a test of constants
abbrev pub is_ground_test : PartForm → Bool
is_ground_test (Child f negated) = false
is_ground_test (Test c wanted) = is_ground c
