-- Which normal forms can be monitored, and else the first reason why one can't (this project's own).
-- Each variable is to be bound by something that has finitely many rows at a time-point: an atom, or
-- an equation with a constant.
use Rattle.std.specs.Prelude.{◌≡◌, ℕ, Bool, true, false, ◌&&◌, nat_lt, nat_eq, cond, List, [], ◌∷◌, ◌++◌, map}
use Rattle.std.specs.Prelude.{Option, Some, None, slice_index_or}
use Rattle.mfotl_model.specs.Formulas.{Form}
use Rattle.monitorable.specs.CoreForms.{CoreForm, meaning, True, False, Atom, Compare, Not, And, Or, Exists}
use Rattle.monitorable.specs.CoreForms.{Previous, Next, Since, Until}
use Rattle.mfotl_model.specs.declared.formula.Bound.{Bound}
use Rattle.mfotl_model.specs.declared.policy.Var.{Var as FreeVar}
use Rattle.mfotl_model.specs.declared.term.Comparison.{Comparison}
use Rattle.mfotl_model.specs.declared.term.Sign.{Sign}
use Rattle.mfotl_model.specs.declared.term.Sign.TheVariants.{Equal, Less, LessEqual, Greater, GreaterEqual}
use Rattle.mfotl_model.specs.declared.term.Term.{Term}
use Rattle.mfotl_model.specs.declared.term.Term.TheVariants.{Var, Const}
use Rattle.mfotl_model.specs.FreeVariables.{fv, among}
use Rattle.monitorable.specs.Limits.{node_limit}
use Rattle.monitorable.specs.NodeCount.{nodes}
use Rattle.monitorable.specs.NormalForm.{negative}
use Rattle.monitorable.specs.declared.fault.Variable.{Variable}
use Rattle.monitorable.specs.declared.fault.FragmentFault.{FragmentFault}
use Rattle.monitorable.specs.declared.fault.FragmentFault.TheVariants.{TooLarge, UnboundedFuture, Unguarded, Uneven}
use Rattle.monitorable.specs.declared.fault.FragmentFault.TheVariants.{LooseLeft, UnusedBound}
use Rattle.monitorable.specs.declared.role.Role.{Role}
use Rattle.monitorable.specs.declared.role.Role.TheVariants.{Whole, Part, Negated, Left}

-- the name of each variable where a core stands, by its number
abbrev pub Names : Type 0
Names = ℕ → List ℕ

-- the names of a policy's free variables
abbrev pub free_names : List FreeVar → Names
free_names vars y = slice_index_or (map (λ v. v.name) vars) y []

-- the names under a quantifier, which hides an outer variable of the same number
abbrev pub with_name : Names → Bound → Names
with_name names x y = cond (nat_eq y x.number) x.name (names y)

-- a variable by its number and its name
abbrev pub named_variable : Names → ℕ → Variable
named_variable names y = record { number = y; name = names y }

-- the first of two faults
abbrev pub first : Option FragmentFault → Option FragmentFault → Option FragmentFault
first (Some fault) other = Some fault
first None other = other

-- the first of the variables ys that is none of the variables xs
abbrev pub first_outside : List ℕ → List ℕ → Option ℕ
first_outside xs [] = None
first_outside xs (y ∷ ys) = cond (among y xs) (first_outside xs ys) (Some y)

-- the fault that the variable found has
abbrev pub at_variable : (ℕ → FragmentFault) → Option ℕ → Option FragmentFault
at_variable fault None = None
at_variable fault (Some y) = Some (fault y)

-- whether the sign is that of an equation
abbrev pub is_equal : Sign → Bool
is_equal Equal = true
is_equal Less = false
is_equal LessEqual = false
is_equal Greater = false
is_equal GreaterEqual = false

-- whether one of the terms is a variable and the other a constant
abbrev pub pairs_constant : Term → Term → Bool
pairs_constant (Var x) (Var y) = false
pairs_constant (Var x) (Const b) = true
pairs_constant (Const a) (Var y) = true
pairs_constant (Const a) (Const b) = false

-- the equations x = c and c = x, which give the variable x one value
abbrev pub binds : Comparison → Bool
binds c = is_equal c.sign && pairs_constant c.left c.right

-- the free variables of those conjuncts of a core that bind theirs: neither a NOT nor a
-- comparison other than an equation with a constant
unfoldable pub bound_by : CoreForm → List ℕ
bound_by (Compare c) = cond (binds c) (fv (meaning (Compare c))) []
bound_by (Not f) = []
bound_by (And f g) = bound_by f ++ bound_by g
bound_by f = fv (meaning f)

-- the free variables of the other conjuncts, in the order of their occurrence
unfoldable pub needed_by : CoreForm → List ℕ
needed_by (Compare c) = cond (binds c) [] (fv (meaning (Compare c)))
needed_by (Not f) = fv (meaning f)
needed_by (And f g) = needed_by f ++ needed_by g
needed_by f = []

-- whether each variable of the conjuncts that bind none is bound by another conjunct
abbrev pub guards : Names → CoreForm → Option FragmentFault
guards names f = at_variable (λ y. Unguarded (named_variable names y)) (first_outside (bound_by f) (needed_by f))

-- whether two cores have the same free variables
abbrev pub evens : CoreForm → CoreForm → Option FragmentFault
evens f g =
    first (at_variable (λ y. Uneven) (first_outside (fv (meaning f)) (fv (meaning g))))
    (at_variable (λ y. Uneven) (first_outside (fv (meaning g)) (fv (meaning f))))

-- whether a quantified variable is free in the core
abbrev pub uses : Bound → CoreForm → Option FragmentFault
uses x f =
    at_variable (λ y. UnusedBound (record { number = y; name = x.name }))
    (first_outside (fv (meaning f)) (x.number ∷ []))

-- whether the left operand's variables are free in the right operand
abbrev pub covers : Names → CoreForm → CoreForm → Option FragmentFault
covers names f g =
    at_variable (λ y. LooseLeft (named_variable names y)) (first_outside (fv (meaning g)) (fv (meaning f)))

-- whether an interval that looks ahead has a greatest distance
abbrev pub looks_within : Option ℕ → Option FragmentFault
looks_within (Some hi) = None
looks_within None = Some UnboundedFuture

-- the role of a formula under NOT: a conjunction denies a comparison as it stands, but the left
-- operand of SINCE or UNTIL without its NOT is judged by itself
abbrev pub under_not : Role → Role
under_not Left = Whole
under_not Whole = Negated
under_not Part = Negated
under_not Negated = Negated

-- whether a formula of this role is the whole conjunction, so that its variables are judged there:
-- each but the conjunct of a longer one
abbrev pub is_conjunction : Role → Bool
is_conjunction Whole = true
is_conjunction Part = false
is_conjunction Negated = true
is_conjunction Left = true

-- the same of a NOT, which is no conjunction on the left of SINCE or UNTIL
abbrev pub judges_not : Role → Bool
judges_not Whole = true
judges_not Part = false
judges_not Negated = true
judges_not Left = false

-- the same of a comparison, which is judged with the conjunction that denies it
abbrev pub judges_comparison : Role → Bool
judges_comparison Whole = true
judges_comparison Part = false
judges_comparison Negated = false
judges_comparison Left = true

-- the fault, where it is asked for
abbrev pub asked : Bool → Option FragmentFault → Option FragmentFault
asked true fault = fault
asked false fault = None

-- the first fault of a core in its role
unfoldable pub fault_in : Names → Role → CoreForm → Option FragmentFault
fault_in names role True = None
fault_in names role False = None
fault_in names role (Atom atom) = None
fault_in names role (Compare c) = asked (judges_comparison role) (guards names (Compare c))
fault_in names role (Not f) =
    first (fault_in names (under_not role) f) (asked (judges_not role) (guards names (Not f)))
fault_in names role (And f g) =
    first (fault_in names Part f)
    (first (fault_in names Part g) (asked (is_conjunction role) (guards names (And f g))))
fault_in names role (Or f g) =
    first (fault_in names Whole f) (first (fault_in names Whole g) (evens f g))
fault_in names role (Exists x f) = first (fault_in (with_name names x) Whole f) (uses x f)
fault_in names role (Previous interval f) = fault_in names Whole f
fault_in names role (Next interval f) = fault_in names Whole f
fault_in names role (Since interval f g) =
    first (fault_in names Left f) (first (fault_in names Whole g) (covers names f g))
fault_in names role (Until interval f g) =
    first (fault_in names Left f)
    (first (fault_in names Whole g) (first (looks_within interval.hi) (covers names f g)))

-- the first fault of a core
abbrev pub frag : Names → CoreForm → Option FragmentFault
frag names f = fault_in names Whole f

-- the fragment accepts a core, whatever the names of its variables
abbrev pub IsMonitorable : CoreForm → Type 0
IsMonitorable f = (names : Names) → frag names f ≡ None

-- why a formula, whose free variables have these names, can't be monitored
abbrev pub frag_fault : Names → Form → Option FragmentFault
frag_fault names f = cond (nat_lt node_limit (nodes (negative f))) (Some TooLarge) (frag names (negative f))
