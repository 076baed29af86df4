-- A core with other numbers for its bound variables, so that no two quantifiers bind the same one
-- and none binds a free one. Names stay (this project's own).
use Rattle.std.specs.Prelude.{ℕ, ◌+◌, nat_eq, cond, max, List, [], ◌∷◌, ◌++◌, map}
use Rattle.monitorable.specs.CoreForms.{CoreForm, meaning, True, False, Atom, Compare, Not, And, Or, Exists}
use Rattle.monitorable.specs.CoreForms.{Previous, Next, Since, Until}
use Rattle.mfotl_model.specs.FreeVariables.{fv}
use Rattle.mfotl_model.specs.declared.term.Atom.{Atom as OneAtom}
use Rattle.mfotl_model.specs.declared.term.Comparison.{Comparison}
use Rattle.mfotl_model.specs.declared.term.Term.{Term}
use Rattle.mfotl_model.specs.declared.term.Term.TheVariants.{Var, Const}

-- the variables that the quantifiers bind, in the order of the quantifiers
unfoldable pub binders : CoreForm → List ℕ
binders True = []
binders False = []
binders (Atom atom) = []
binders (Compare c) = []
binders (Not f) = binders f
binders (And f g) = binders f ++ binders g
binders (Or f g) = binders f ++ binders g
binders (Exists x f) = x.number ∷ binders f
binders (Previous interval f) = binders f
binders (Next interval f) = binders f
binders (Since interval f g) = binders f ++ binders g
binders (Until interval f g) = binders f ++ binders g

-- how many quantifiers there are
unfoldable pub binder_count : CoreForm → ℕ
binder_count True = 0
binder_count False = 0
binder_count (Atom atom) = 0
binder_count (Compare c) = 0
binder_count (Not f) = binder_count f
binder_count (And f g) = binder_count f + binder_count g
binder_count (Or f g) = binder_count f + binder_count g
binder_count (Exists x f) = 1 + binder_count f
binder_count (Previous interval f) = binder_count f
binder_count (Next interval f) = binder_count f
binder_count (Since interval f g) = binder_count f + binder_count g
binder_count (Until interval f g) = binder_count f + binder_count g

-- the new number of each variable
abbrev pub Numbers : Type 0
Numbers = ℕ → ℕ

-- the numbers where the variable x is bound, and has the number n
abbrev pub with_number : Numbers → ℕ → ℕ → Numbers
with_number numbers x n y = cond (nat_eq y x) n (numbers y)

-- a term in new numbers
abbrev pub renamed_term : Numbers → Term → Term
renamed_term numbers (Var x) = Var (numbers x)
renamed_term numbers (Const a) = Const a

-- an atom in new numbers
abbrev pub renamed_atom : Numbers → OneAtom → OneAtom
renamed_atom numbers atom = record { pred = atom.pred; args = map (renamed_term numbers) atom.args }

-- a comparison in new numbers
abbrev pub renamed_comparison : Numbers → Comparison → Comparison
renamed_comparison numbers c =
    record { sign = c.sign; left = renamed_term numbers c.left; right = renamed_term numbers c.right }

-- the core in new numbers, its quantifiers numbered from n on
unfoldable pub renamed : Numbers → ℕ → CoreForm → CoreForm
renamed numbers n True = True
renamed numbers n False = False
renamed numbers n (Atom atom) = Atom (renamed_atom numbers atom)
renamed numbers n (Compare c) = Compare (renamed_comparison numbers c)
renamed numbers n (Not f) = Not (renamed numbers n f)
renamed numbers n (And f g) = And (renamed numbers n f) (renamed numbers (n + binder_count f) g)
renamed numbers n (Or f g) = Or (renamed numbers n f) (renamed numbers (n + binder_count f) g)
renamed numbers n (Exists x f) =
    Exists (record { number = n; name = x.name }) (renamed (with_number numbers x.number n) (n + 1) f)
renamed numbers n (Previous interval f) = Previous interval (renamed numbers n f)
renamed numbers n (Next interval f) = Next interval (renamed numbers n f)
renamed numbers n (Since interval f g) =
    Since interval (renamed numbers n f) (renamed numbers (n + binder_count f) g)
renamed numbers n (Until interval f g) =
    Until interval (renamed numbers n f) (renamed numbers (n + binder_count f) g)

-- the least number above all of these
abbrev pub above : List ℕ → ℕ
above [] = 0
above (x ∷ xs) = max (x + 1) (above xs)

-- the core whose quantifiers are numbered one after the other, above its free variables
abbrev pub apart_form : CoreForm → CoreForm
apart_form f = renamed (λ y. y) (above (fv (meaning f))) f
