-- The active domain: the values that occur in a log or in a policy. Violations are looked for
-- among these values alone (this project's own).
use Rattle.std.specs.Prelude.{List, [], ◌∷◌, ◌++◌}
use Rattle.std.specs.List.{flat_map}
pub use Rattle.mfotl_model.specs.Ascending.{ascending}
use Rattle.mfotl_model.specs.Formulas.{Form}
use Rattle.mfotl_model.specs.Formulas.Form.{True, False, Atom, Compare, Not, And, Or, Implies, Equiv, Exists}
use Rattle.mfotl_model.specs.Formulas.Form.{Forall, Previous, Next, Once, Historically, Eventually, Always, Since}
use Rattle.mfotl_model.specs.Formulas.Form.{Until}
use Rattle.mfotl_model.specs.Values.{value_cmp}
use Rattle.mfotl_model.specs.declared.event.TimePoint.{TimePoint}
use Rattle.mfotl_model.specs.declared.term.Term.{Term}
use Rattle.mfotl_model.specs.declared.term.Term.TheVariants.{Var, Const}
use Rattle.mfotl_model.specs.declared.value.Value.{Value}

-- the values in the events of a log
abbrev pub log_values : List TimePoint → List Value
log_values log = flat_map (λ point. flat_map (λ event. event.args) point.db) log

-- the constant that a term is, if it is one
abbrev pub constant_in : Term → List Value
constant_in (Var x) = []
constant_in (Const a) = a ∷ []

-- the constants of a formula
unfoldable pub constants : Form → List Value
constants True = []
constants False = []
constants (Atom atom) = flat_map constant_in atom.args
constants (Compare c) = constant_in c.left ++ constant_in c.right
constants (Not f) = constants f
constants (And f g) = constants f ++ constants g
constants (Or f g) = constants f ++ constants g
constants (Implies f g) = constants f ++ constants g
constants (Equiv f g) = constants f ++ constants g
constants (Exists x f) = constants f
constants (Forall x f) = constants f
constants (Previous interval f) = constants f
constants (Next interval f) = constants f
constants (Once interval f) = constants f
constants (Historically interval f) = constants f
constants (Eventually interval f) = constants f
constants (Always interval f) = constants f
constants (Since interval f g) = constants f ++ constants g
constants (Until interval f g) = constants f ++ constants g

-- the active domain of a log and a policy: the values of both, in ascending order
abbrev pub adom : List TimePoint → Form → List Value
adom log f = ascending value_cmp (log_values log ++ constants f)
