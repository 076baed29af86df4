-- The words of a formula in prefix notation, each time with the words that follow it.
use Rattle.std.specs.Prelude.{ℕ, List, ◌∷◌, ◌++◌, map, length, codes, Option, Some, None}
use Rattle.std.specs.Fmt.{decimal}
use Rattle.mfotl_model.specs.Formulas.{Form}
use Rattle.mfotl_model.specs.Formulas.Form.{True, False, Atom, Compare, Not, And, Or, Implies, Equiv, Exists}
use Rattle.mfotl_model.specs.Formulas.Form.{Forall, Previous, Next, Once, Historically, Eventually, Always, Since}
use Rattle.mfotl_model.specs.Formulas.Form.{Until}
use Rattle.mfotl_model.specs.declared.interval.Interval.{Interval}
use Rattle.mfotl_model.specs.declared.term.Atom.{Atom as OneAtom}
use Rattle.mfotl_model.specs.declared.term.Comparison.{Comparison}
use Rattle.definitions_check.specs.Operators.{sign_word}
use Rattle.definitions_check.specs.Values.{spelled_term}

-- an atom: its predicate, how many terms it has, and these
abbrev pub spelled_atom : OneAtom → List (List ℕ) → List (List ℕ)
spelled_atom a more =
    decimal a.pred ∷ decimal (length a.args) ∷ (map spelled_term a.args ++ more)

-- a comparison: its sign and its terms
abbrev pub spelled_comparison : Comparison → List (List ℕ) → List (List ℕ)
spelled_comparison c more = sign_word c.sign ∷ spelled_term c.left ∷ spelled_term c.right ∷ more

-- the upper end of an interval, a star where there is none
abbrev pub upper_word : Option ℕ → List ℕ
upper_word None = codes "*"
upper_word (Some hi) = decimal hi

-- both ends of an interval
abbrev pub spelled_interval : Interval → List (List ℕ) → List (List ℕ)
spelled_interval i more = decimal i.lo ∷ upper_word i.hi ∷ more

-- a formula: the word of its operator, then its variable or its interval, then its operands
unfoldable pub spelled : Form → List (List ℕ) → List (List ℕ)
spelled True more = codes "true" ∷ more
spelled False more = codes "false" ∷ more
spelled (Atom a) more = codes "atom" ∷ spelled_atom a more
spelled (Compare c) more = codes "cmp" ∷ spelled_comparison c more
spelled (Not f) more = codes "not" ∷ spelled f more
spelled (And f g) more = codes "and" ∷ spelled f (spelled g more)
spelled (Or f g) more = codes "or" ∷ spelled f (spelled g more)
spelled (Implies f g) more = codes "implies" ∷ spelled f (spelled g more)
spelled (Equiv f g) more = codes "equiv" ∷ spelled f (spelled g more)
spelled (Exists x f) more = codes "exists" ∷ decimal x.number ∷ spelled f more
spelled (Forall x f) more = codes "forall" ∷ decimal x.number ∷ spelled f more
spelled (Previous i f) more = codes "previous" ∷ spelled_interval i (spelled f more)
spelled (Next i f) more = codes "next" ∷ spelled_interval i (spelled f more)
spelled (Once i f) more = codes "once" ∷ spelled_interval i (spelled f more)
spelled (Historically i f) more = codes "historically" ∷ spelled_interval i (spelled f more)
spelled (Eventually i f) more = codes "eventually" ∷ spelled_interval i (spelled f more)
spelled (Always i f) more = codes "always" ∷ spelled_interval i (spelled f more)
spelled (Since i f g) more = codes "since" ∷ spelled_interval i (spelled f (spelled g more))
spelled (Until i f g) more = codes "until" ∷ spelled_interval i (spelled f (spelled g more))
