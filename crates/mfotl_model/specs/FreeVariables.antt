-- The free variables of a formula, by number, in the order of their first occurrence (JACM 2015 in
-- substance).
use Rattle.std.specs.Prelude.{ℕ, Bool, not, nat_eq, List, [], ◌∷◌, ◌++◌}
use Rattle.std.specs.List.{list_any, filter, flat_map}
use Rattle.mfotl_model.specs.Formulas.{Form}
use Rattle.mfotl_model.specs.Formulas.Form.{True, False, Atom, Compare, Not, And, Or, Implies, Equiv, Exists}
use Rattle.mfotl_model.specs.Formulas.Form.{Forall, Previous, Next, Once, Historically, Eventually, Always, Since}
use Rattle.mfotl_model.specs.Formulas.Form.{Until}
use Rattle.mfotl_model.specs.declared.term.Term.{Term}
use Rattle.mfotl_model.specs.declared.term.Term.TheVariants.{Var, Const}

-- whether x is one of the variables
abbrev pub among : ℕ → List ℕ → Bool
among x variables = list_any (nat_eq x) variables

-- the variables but x
abbrev pub without : ℕ → List ℕ → List ℕ
without x variables = filter (λ y. not (nat_eq y x)) variables

-- those of the variables ys that are none of xs
abbrev pub others : List ℕ → List ℕ → List ℕ
others xs ys = filter (λ y. not (among y xs)) ys

-- the variables of both lists: first those of xs, then those of ys that are none of xs
abbrev pub joined : List ℕ → List ℕ → List ℕ
joined xs ys = xs ++ others xs ys

-- each variable once, at its first place
abbrev pub distinct : List ℕ → List ℕ
distinct [] = []
distinct (x ∷ xs) = joined (x ∷ []) (distinct xs)

-- the variable that a term is, if it is one
abbrev pub variable_in : Term → List ℕ
variable_in (Var x) = x ∷ []
variable_in (Const a) = []

-- the variables of a list of terms, each once
abbrev pub variables_in : List Term → List ℕ
variables_in terms = distinct (flat_map variable_in terms)

-- the free variables of a formula, each once, in the order of their first occurrence
unfoldable pub fv : Form → List ℕ
fv True = []
fv False = []
fv (Atom atom) = variables_in atom.args
fv (Compare c) = variables_in (c.left ∷ c.right ∷ [])
fv (Not f) = fv f
fv (And f g) = joined (fv f) (fv g)
fv (Or f g) = joined (fv f) (fv g)
fv (Implies f g) = joined (fv f) (fv g)
fv (Equiv f g) = joined (fv f) (fv g)
fv (Exists x f) = without x.number (fv f)
fv (Forall x f) = without x.number (fv f)
fv (Previous interval f) = fv f
fv (Next interval f) = fv f
fv (Once interval f) = fv f
fv (Historically interval f) = fv f
fv (Eventually interval f) = fv f
fv (Always interval f) = fv f
fv (Since interval f g) = joined (fv f) (fv g)
fv (Until interval f g) = joined (fv f) (fv g)
