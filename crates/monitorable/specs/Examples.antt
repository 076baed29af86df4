-- Formulas with the first reason why they can't be monitored, and how many nodes they have, worked out by hand.
use Rattle.std.specs.Prelude.{◌≡◌, ℕ, zero, suc, List, [], ◌∷◌, Option, Some, None, codes}
use Rattle.mfotl_model.specs.Formulas as forms
use Rattle.mfotl_model.specs.Formulas.{Form}
use Rattle.mfotl_model.specs.Samples.{at, from, int}
use Rattle.mfotl_model.specs.declared.formula.Bound.{Bound}
use Rattle.mfotl_model.specs.declared.policy.Sort.TheVariants.{Int}
use Rattle.mfotl_model.specs.declared.policy.Var.{Var as FreeVar}
use Rattle.mfotl_model.specs.declared.term.Sign.{Sign}
use Rattle.mfotl_model.specs.declared.term.Sign.TheVariants.{Equal, LessEqual, Greater}
use Rattle.mfotl_model.specs.declared.term.Term.TheVariants.{Var, Const}
use Rattle.monitorable.specs.Fragment.{free_names, frag_fault}
use Rattle.monitorable.specs.NodeCount.{nodes}
use Rattle.monitorable.specs.NormalForm.{positive, negative}
use Rattle.monitorable.specs.declared.fault.FragmentFault.{FragmentFault}
use Rattle.monitorable.specs.declared.fault.FragmentFault.TheVariants.{TooLarge, UnboundedFuture, Unguarded, Uneven}
use Rattle.monitorable.specs.declared.fault.FragmentFault.TheVariants.{LooseLeft, UnusedBound}
use Rattle.monitorable.specs.declared.fault.Variable.{Variable}

-- a free variable of this name
abbrev pub free : List ℕ → FreeVar
free name = record { name = name; sort = Int }

-- the first fault of a formula over the free variables x, y and z
abbrev pub first_fault_of : Form → Option FragmentFault
first_fault_of f = frag_fault (free_names (free (codes "x") ∷ free (codes "y") ∷ free (codes "z") ∷ [])) f

-- the first variable as a fault tells it
abbrev pub x : Variable
x = record { number = 0; name = codes "x" }

-- the second
abbrev pub y : Variable
y = record { number = 1; name = codes "y" }

-- the third
abbrev pub z : Variable
z = record { number = 2; name = codes "z" }

-- a quantified variable
abbrev pub w : Bound
w = record { number = 8; name = codes "w" }

-- p of the variable of this number
abbrev pub p : ℕ → Form
p number = at 0 (Var number ∷ [])

-- q of the variable of this number
abbrev pub q : ℕ → Form
q number = at 1 (Var number ∷ [])

-- p of a constant
abbrev pub ground : Form
ground = at 0 (Const (int 1) ∷ [])

-- a variable compared with a constant
abbrev pub compared : Sign → ℕ → Form
compared sign number = forms.Compare (record { sign = sign; left = Var number; right = Const (int 3) })

-- it is above 3
abbrev pub above : ℕ → Form
above number = compared Greater number

-- y is above x
abbrev pub y_above_x : Form
y_above_x = forms.Compare (record { sign = Greater; left = Var 1; right = Var 0 })

-- PREVIOUS so many times
abbrev pub previous_times : ℕ → Form → Form
previous_times zero f = f
previous_times (suc times) f = forms.Previous (from 0) (previous_times times f)

-- NOT f has this first fault
abbrev pub NegationFails : Form → FragmentFault → Type 0
NegationFails f fault = first_fault_of (forms.Not f) ≡ Some fault

-- NOT f can be monitored
abbrev pub NegationIsMonitorable : Form → Type 0
NegationIsMonitorable f = first_fault_of (forms.Not f) ≡ None

-- of two faults, the one that is told
pub record FirstOfTwoFaults : Type 0 where
  pub unbounded_before_loose : NegationFails (forms.Until (from 0) (p 0) (q 1)) UnboundedFuture
  pub right_before_unbounded : NegationFails (forms.Until (from 0) (p 0) (forms.Not (q 1))) (Unguarded y)
  pub left_of_until_first : NegationFails (forms.Until (from 0) (above 0) (forms.Not (q 1))) (Unguarded x)
  pub left_of_since_first : NegationFails (forms.Since (from 0) (above 0) (forms.Not (q 1))) (Unguarded x)
  pub right_before_loose : NegationFails (forms.Since (from 0) (p 0) (forms.Not (q 1))) (Unguarded y)
  pub left_of_or_first : NegationFails (forms.Or (above 0) (above 1)) (Unguarded x)
  pub right_before_uneven : NegationFails (forms.Or (p 0) (forms.Not (q 1))) (Unguarded y)
  pub left_of_and_first : NegationFails (forms.And (forms.Or (p 0) (q 1)) (above 2)) Uneven
  pub right_of_and_first : NegationFails (forms.And (above 2) (forms.Or (p 0) (q 1))) Uneven
  pub inside_before_unused : NegationFails (forms.Exists w (forms.Not (p 0))) (Unguarded x)
  pub first_in_the_text : NegationFails (forms.And ground y_above_x) (Unguarded y)
  pub first_loose : NegationFails (forms.Since (from 0) (forms.And (p 1) (q 0)) ground) (LooseLeft y)
  pub too_large_first : NegationFails (previous_times 1024 (above 0)) TooLarge

-- one fault alone, and what has none
pub record OneFaultOrNone : Type 0 where
  pub ordered : NegationFails (compared LessEqual 0) (Unguarded x)
  pub denied_on_the_left : NegationFails (forms.Since (from 0) (forms.Not (above 0)) (p 0)) (Unguarded x)
  pub loose : NegationFails (forms.Since (from 0) (p 0) (q 1)) (LooseLeft x)
  pub uneven_left : NegationFails (forms.Or (p 0) ground) Uneven
  pub uneven_right : NegationFails (forms.Or ground (p 0)) Uneven
  pub unused : NegationFails (forms.Exists w (p 0)) (UnusedBound (record { number = 8; name = codes "w" }))
  pub equation : NegationIsMonitorable (compared Equal 0)
  pub denied_comparison : NegationIsMonitorable (forms.And (p 0) (forms.Not (above 0)))
  pub not_on_the_left : NegationIsMonitorable (forms.Since (from 0) (forms.Not (p 0)) (q 0))
  pub covered : NegationIsMonitorable (forms.Since (from 0) (p 0) (forms.And (q 1) (q 0)))

-- what counts as a node, and how many there may be
pub record Counted : Type 0 where
  pub truth : nodes (positive forms.True) ≡ 1
  pub falsehood : nodes (positive forms.False) ≡ 1
  pub atom : nodes (positive (p 0)) ≡ 1
  pub comparison : nodes (positive (above 0)) ≡ 1
  pub negation : nodes (negative (p 0)) ≡ 2
  pub conjunction : nodes (positive (forms.And (p 0) (q 0))) ≡ 3
  pub disjunction : nodes (positive (forms.Or (p 0) (q 0))) ≡ 3
  pub equivalence : nodes (positive (forms.Equiv (p 0) (q 0))) ≡ 9
  pub quantifier : nodes (positive (forms.Exists w (p 8))) ≡ 2
  pub each : nodes (positive (forms.Forall w (p 8))) ≡ 4
  pub previous : nodes (positive (forms.Previous (from 0) (p 0))) ≡ 2
  pub next : nodes (positive (forms.Next (from 0) (p 0))) ≡ 2
  pub once : nodes (positive (forms.Once (from 0) (p 0))) ≡ 3
  pub since : nodes (positive (forms.Since (from 0) (p 0) (q 0))) ≡ 3
  pub until : nodes (positive (forms.Until (from 0) (p 0) (q 0))) ≡ 3
  pub most : NegationIsMonitorable (previous_times 1023 ground)
  pub one_more : NegationFails (previous_times 1024 ground) TooLarge
