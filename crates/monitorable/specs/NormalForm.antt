-- The normal form that the monitor works on (this project's own). It has no derived operator, and
-- NOT stands before no OR, IMPLIES or FORALL.
use Rattle.mfotl_model.specs.Formulas as form
use Rattle.mfotl_model.specs.Formulas.{Form}
use Rattle.monitorable.specs.CoreForms.{CoreForm, True, False, Atom, Compare, Not, And, Or, Exists, Previous, Next}
use Rattle.monitorable.specs.CoreForms.{Since, Until}

-- the normal form of f, and that of NOT f
unfoldable mutual
  -- the normal form of f
  pub positive : Form → CoreForm
  positive form.True = True
  positive form.False = False
  positive (form.Atom atom) = Atom atom
  positive (form.Compare c) = Compare c
  positive (form.Not f) = negative f
  positive (form.And f g) = And (positive f) (positive g)
  positive (form.Or f g) = Or (positive f) (positive g)
  positive (form.Implies f g) = Or (negative f) (positive g)
  positive (form.Equiv f g) = And (Or (negative f) (positive g)) (Or (negative g) (positive f))
  positive (form.Exists x f) = Exists x (positive f)
  positive (form.Forall x f) = Not (Exists x (negative f))
  positive (form.Previous interval f) = Previous interval (positive f)
  positive (form.Next interval f) = Next interval (positive f)
  positive (form.Once interval f) = Since interval True (positive f)
  positive (form.Historically interval f) = Not (Since interval True (negative f))
  positive (form.Eventually interval f) = Until interval True (positive f)
  positive (form.Always interval f) = Not (Until interval True (negative f))
  positive (form.Since interval f g) = Since interval (positive f) (positive g)
  positive (form.Until interval f g) = Until interval (positive f) (positive g)

  -- the normal form of NOT f
  pub negative : Form → CoreForm
  negative form.True = Not True
  negative form.False = Not False
  negative (form.Atom atom) = Not (Atom atom)
  negative (form.Compare c) = Not (Compare c)
  negative (form.Not f) = positive f
  negative (form.And f g) = Not (And (positive f) (positive g))
  negative (form.Or f g) = And (negative f) (negative g)
  negative (form.Implies f g) = And (positive f) (negative g)
  negative (form.Equiv f g) = Not (And (Or (negative f) (positive g)) (Or (negative g) (positive f)))
  negative (form.Exists x f) = Not (Exists x (positive f))
  negative (form.Forall x f) = Exists x (negative f)
  negative (form.Previous interval f) = Not (Previous interval (positive f))
  negative (form.Next interval f) = Not (Next interval (positive f))
  negative (form.Once interval f) = Not (Since interval True (positive f))
  negative (form.Historically interval f) = Since interval True (negative f)
  negative (form.Eventually interval f) = Not (Until interval True (positive f))
  negative (form.Always interval f) = Until interval True (negative f)
  negative (form.Since interval f g) = Not (Since interval (positive f) (positive g))
  negative (form.Until interval f g) = Not (Until interval (positive f) (positive g))
