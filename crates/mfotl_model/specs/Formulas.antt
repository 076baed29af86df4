-- Formulas as plain data: the tree of a `Formula`, without its boxes. Every meaning is over this tree.
use Rattle.mfotl_model.specs.declared.formula.Bound.{Bound}
use Rattle.mfotl_model.specs.declared.formula.Formula.{Formula}
use Rattle.mfotl_model.specs.declared.formula.Formula.TheVariants as formula
use Rattle.mfotl_model.specs.declared.interval.Interval.{Interval}
use Rattle.mfotl_model.specs.declared.term.Atom.{Atom as OneAtom}
use Rattle.mfotl_model.specs.declared.term.Comparison.{Comparison}

-- the operators as a `Formula` has them
pub data Form : Type 0 where
  True : Form
  False : Form
  Atom : (atom : OneAtom) → Form
  Compare : (comparison : Comparison) → Form
  Not : (inner : Form) → Form
  And : (left right : Form) → Form
  Or : (left right : Form) → Form
  Implies : (left right : Form) → Form
  Equiv : (left right : Form) → Form
  Exists : (bound : Bound) (inner : Form) → Form
  Forall : (bound : Bound) (inner : Form) → Form
  Previous : (interval : Interval) (inner : Form) → Form
  Next : (interval : Interval) (inner : Form) → Form
  Once : (interval : Interval) (inner : Form) → Form
  Historically : (interval : Interval) (inner : Form) → Form
  Eventually : (interval : Interval) (inner : Form) → Form
  Always : (interval : Interval) (inner : Form) → Form
  Since : (interval : Interval) (left right : Form) → Form
  Until : (interval : Interval) (left right : Form) → Form

-- the tree of a formula
abbrev pub form : Formula → Form
form formula.True = True
form formula.False = False
form (formula.Atom a) = Atom a
form (formula.Compare c) = Compare c
form (formula.Not' p f) = Not (form f)
form (formula.And' p f q g) = And (form f) (form g)
form (formula.Or' p f q g) = Or (form f) (form g)
form (formula.Implies' p f q g) = Implies (form f) (form g)
form (formula.Equiv' p f q g) = Equiv (form f) (form g)
form (formula.Exists' x p f) = Exists x (form f)
form (formula.Forall' x p f) = Forall x (form f)
form (formula.Previous' i p f) = Previous i (form f)
form (formula.Next' i p f) = Next i (form f)
form (formula.Once' i p f) = Once i (form f)
form (formula.Historically' i p f) = Historically i (form f)
form (formula.Eventually' i p f) = Eventually i (form f)
form (formula.Always' i p f) = Always i (form f)
form (formula.Since' i p f q g) = Since i (form f) (form g)
form (formula.Until' i p f q g) = Until i (form f) (form g)
