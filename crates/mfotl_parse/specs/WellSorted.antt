-- What ties the columns of a policy to its formula: the free variables are numbered in the order in which they first
-- occur, and each occurrence has the sort of its variable. It is said of the formula alone.
use Rattle.std.specs.Prelude.{◌≡◌, ℕ, Bool, true, false, List, [], ◌∷◌, Option, None, Some, length, map, Contains}
use Rattle.std.specs.List.{range_with_len}
use Rattle.mfotl_model.specs.declared.policy.Sort.{Sort}
use Rattle.mfotl_model.specs.declared.policy.Sort.TheVariants as sorts
use Rattle.mfotl_model.specs.declared.policy.Var.{Var}
use Rattle.mfotl_model.specs.declared.term.Atom.{Atom}
use Rattle.mfotl_model.specs.declared.term.Term.{Term}
use Rattle.mfotl_model.specs.declared.term.Term.TheVariants as terms
use Rattle.mfotl_model.specs.declared.value.Value.{Value}
use Rattle.mfotl_model.specs.declared.value.Value.TheVariants as values
use Rattle.mfotl_model.specs.Formulas as forms
use Rattle.mfotl_model.specs.Formulas.{Form}
use Rattle.mfotl_model.specs.FreeVariables.{fv}
use Rattle.mfotl_sig.specs.Preds.{PredOf}

-- the sort that each variable was given, where one was, by its number
abbrev pub Sorting : Type 0
Sorting = ℕ → Option Sort

-- the sorts are the same
abbrev pub same_sort : Sort → Sort → Bool
same_sort sorts.Int sorts.Int = true
same_sort sorts.Int sorts.Text = false
same_sort sorts.Text sorts.Int = false
same_sort sorts.Text sorts.Text = true

-- the sort of a constant
abbrev pub sort_of_constant : Value → Sort
sort_of_constant (values.Int number) = sorts.Int
sort_of_constant (values.Text text) = sorts.Text

-- a constant of the sort, or a variable that was given it
abbrev pub HasSort : Sorting → Term → Sort → Type 0
HasSort given (terms.Var x) sort = given x ≡ Some sort
HasSort given (terms.Const value) sort = sort_of_constant value ≡ sort

-- terms of these sorts, one of each
abbrev pub HaveSorts : Sorting → List Term → List Sort → Type 0
HaveSorts given [] [] = Unit {0}
HaveSorts given [] (sort ∷ due) = ⊥
HaveSorts given (t ∷ ts) [] = ⊥
HaveSorts given (t ∷ ts) (sort ∷ due) = HasSort given t sort × HaveSorts given ts due

-- an atom of a predicate of the signature, whose arguments have the sorts of its places
pub record FitsPredicate (sig : List PredOf) (given : Sorting) (atom : Atom) : Type 0 where
  pub pred : PredOf
  pub known : Contains sig pred
  pub number : atom.pred ≡ pred.number
  pub sorted : HaveSorts given atom.args pred.sorts

-- a comparison's sides: no two of different sorts, and a variable beside a constant was given its sort
abbrev pub SidesAgree : Sorting → Term → Term → Type 0
SidesAgree given (terms.Var x) (terms.Var y) =
    (left right : Sort) → given x ≡ Some left → given y ≡ Some right → left ≡ right
SidesAgree given (terms.Var x) (terms.Const d) = given x ≡ Some (sort_of_constant d)
SidesAgree given (terms.Const c) (terms.Var y) = given y ≡ Some (sort_of_constant c)
SidesAgree given (terms.Const c) (terms.Const d) = sort_of_constant c ≡ sort_of_constant d

-- each atom and comparison of a formula is sorted so
abbrev pub FitsSorts : List PredOf → Sorting → Form → Type 0
FitsSorts sig given forms.True = Unit {0}
FitsSorts sig given forms.False = Unit {0}
FitsSorts sig given (forms.Atom atom) = FitsPredicate sig given atom
FitsSorts sig given (forms.Compare c) = SidesAgree given c.left c.right
FitsSorts sig given (forms.Not f) = FitsSorts sig given f
FitsSorts sig given (forms.And f g) = FitsSorts sig given f × FitsSorts sig given g
FitsSorts sig given (forms.Or f g) = FitsSorts sig given f × FitsSorts sig given g
FitsSorts sig given (forms.Implies f g) = FitsSorts sig given f × FitsSorts sig given g
FitsSorts sig given (forms.Equiv f g) = FitsSorts sig given f × FitsSorts sig given g
FitsSorts sig given (forms.Exists x f) = FitsSorts sig given f
FitsSorts sig given (forms.Forall x f) = FitsSorts sig given f
FitsSorts sig given (forms.Previous i f) = FitsSorts sig given f
FitsSorts sig given (forms.Next i f) = FitsSorts sig given f
FitsSorts sig given (forms.Once i f) = FitsSorts sig given f
FitsSorts sig given (forms.Historically i f) = FitsSorts sig given f
FitsSorts sig given (forms.Eventually i f) = FitsSorts sig given f
FitsSorts sig given (forms.Always i f) = FitsSorts sig given f
FitsSorts sig given (forms.Since i f g) = FitsSorts sig given f × FitsSorts sig given g
FitsSorts sig given (forms.Until i f g) = FitsSorts sig given f × FitsSorts sig given g

-- what nothing sorts counts as an integer
abbrev pub sort_or_integer : Option Sort → Sort
sort_or_integer None = sorts.Int
sort_or_integer (Some sort) = sort

-- the free variables are these columns, of these sorts, numbered in the order of first occurrence; and each
-- occurrence has the sort of its variable
pub record IsWellSorted (sig : List PredOf) (vars : List Var) (f : Form) : Type 0 where
  pub free : fv f ≡ range_with_len 0 (length vars)
  pub given : Sorting
  pub fits : FitsSorts sig given f
  pub columns : map (λ v. v.sort) vars ≡ map (λ x. sort_or_integer (given x)) (range_with_len 0 (length vars))
