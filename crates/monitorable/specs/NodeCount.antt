-- How many nodes a core has: one for each TRUE, FALSE, atom, comparison, quantified variable and
-- operator (this project's own).
use Rattle.std.specs.Prelude.{ℕ, ◌+◌}
use Rattle.mfotl_model.specs.Formulas as forms
use Rattle.mfotl_model.specs.Formulas.{Form}
use Rattle.monitorable.specs.CoreForms.{CoreForm, True, False, Atom, Compare, Not, And, Or, Exists, Previous, Next}
use Rattle.monitorable.specs.CoreForms.{Since, Until}

-- the nodes of a core
unfoldable pub nodes : CoreForm → ℕ
nodes True = 1
nodes False = 1
nodes (Atom atom) = 1
nodes (Compare c) = 1
nodes (Not f) = 1 + nodes f
nodes (And f g) = 1 + nodes f + nodes g
nodes (Or f g) = 1 + nodes f + nodes g
nodes (Exists x f) = 1 + nodes f
nodes (Previous interval f) = 1 + nodes f
nodes (Next interval f) = 1 + nodes f
nodes (Since interval f g) = 1 + nodes f + nodes g
nodes (Until interval f g) = 1 + nodes f + nodes g

-- how many of a formula's normal form are not of its operands' forms
abbrev pub own_nodes : Form → ℕ
own_nodes (forms.Not f) = 0
own_nodes (forms.Equiv f g) = 3
own_nodes (forms.Forall x f) = 2
own_nodes (forms.Once interval f) = 2
own_nodes (forms.Historically interval f) = 3
own_nodes (forms.Eventually interval f) = 2
own_nodes (forms.Always interval f) = 3
own_nodes f = 1
