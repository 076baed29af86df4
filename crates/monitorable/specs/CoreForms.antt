-- Cores as plain data: the tree of a `Node`, without its boxes, and the formula that it stands for. A core has no
-- derived operator. Its meaning, its free variables and when it is settled are those of that formula.
use Rattle.mfotl_model.specs.Formulas as forms
use Rattle.mfotl_model.specs.Formulas.{Form}
use Rattle.mfotl_model.specs.declared.formula.Bound.{Bound}
use Rattle.mfotl_model.specs.declared.interval.Interval.{Interval}
use Rattle.mfotl_model.specs.declared.term.Atom.{Atom as OneAtom}
use Rattle.mfotl_model.specs.declared.term.Comparison.{Comparison}
use Rattle.monitorable.specs.declared.node.Node.{Node}
use Rattle.monitorable.specs.declared.node.Node.TheVariants as nodes

-- the operators that a core has
pub data CoreForm : Type 0 where
  True : CoreForm
  False : CoreForm
  Atom : (atom : OneAtom) → CoreForm
  Compare : (comparison : Comparison) → CoreForm
  Not : (inner : CoreForm) → CoreForm
  And : (left right : CoreForm) → CoreForm
  Or : (left right : CoreForm) → CoreForm
  Exists : (bound : Bound) (inner : CoreForm) → CoreForm
  Previous : (interval : Interval) (inner : CoreForm) → CoreForm
  Next : (interval : Interval) (inner : CoreForm) → CoreForm
  Since : (interval : Interval) (left right : CoreForm) → CoreForm
  Until : (interval : Interval) (left right : CoreForm) → CoreForm

-- the tree of a node
abbrev pub node_form : Node → CoreForm
node_form nodes.True = True
node_form nodes.False = False
node_form (nodes.Atom a) = Atom a
node_form (nodes.Compare c) = Compare c
node_form (nodes.Not' p f) = Not (node_form f)
node_form (nodes.And' p f q g) = And (node_form f) (node_form g)
node_form (nodes.Or' p f q g) = Or (node_form f) (node_form g)
node_form (nodes.Exists' x p f) = Exists x (node_form f)
node_form (nodes.Previous' i p f) = Previous i (node_form f)
node_form (nodes.Next' i p f) = Next i (node_form f)
node_form (nodes.Since' i p f q g) = Since i (node_form f) (node_form g)
node_form (nodes.Until' i p f q g) = Until i (node_form f) (node_form g)

-- the formula that a core stands for
abbrev pub meaning : CoreForm → Form
meaning True = forms.True
meaning False = forms.False
meaning (Atom a) = forms.Atom a
meaning (Compare c) = forms.Compare c
meaning (Not f) = forms.Not (meaning f)
meaning (And f g) = forms.And (meaning f) (meaning g)
meaning (Or f g) = forms.Or (meaning f) (meaning g)
meaning (Exists x f) = forms.Exists x (meaning f)
meaning (Previous i f) = forms.Previous i (meaning f)
meaning (Next i f) = forms.Next i (meaning f)
meaning (Since i f g) = forms.Since i (meaning f) (meaning g)
meaning (Until i f g) = forms.Until i (meaning f) (meaning g)
