-- Free variables have no repeats.
use Rattle.std.proofs.Common.{◌≡◌, true, not, nat_eq, ◌∷◌, [], refl, sym, ap, ◌∙◌}
use Rattle.std.specs.List.{flat_map}
use Rattle.mfotl_model.specs.{Formulas.Form, FreeVariables.fv, FreeVariables.variable_in, Tables.all_apart}
use Rattle.mfotl_model.proofs.ColumnLemmas.{filter_apart, joined_apart, distinct_apart}
use Rattle.monitorable.proofs.NormalFormVariables.{normal_form_variables}
use Rattle.monitorable.specs.CoreForms.{CoreForm, meaning, Atom, Compare, Not, And, Or, Exists, Previous, Next, Since}
use Rattle.monitorable.specs.CoreForms.{Until}
use Rattle.monitorable.specs.NormalForm.{positive}

core_fv_apart : (f : CoreForm) → all_apart (fv (meaning f)) ≡ true
unfolding fv
core_fv_apart (Atom atom) = distinct_apart (flat_map variable_in atom.args)
core_fv_apart (Compare c) = distinct_apart (flat_map variable_in (c.left ∷ c.right ∷ []))
core_fv_apart (Not f) = core_fv_apart f
core_fv_apart (And f g) = joined_apart (fv (meaning f)) (fv (meaning g)) (core_fv_apart f) (core_fv_apart g)
core_fv_apart (Or f g) = joined_apart (fv (meaning f)) (fv (meaning g)) (core_fv_apart f) (core_fv_apart g)
core_fv_apart (Exists x f) = filter_apart (λ y. not (nat_eq y x.number)) (fv (meaning f)) (core_fv_apart f)
core_fv_apart (Previous interval f) = core_fv_apart f
core_fv_apart (Next interval f) = core_fv_apart f
core_fv_apart (Since interval f g) = joined_apart (fv (meaning f)) (fv (meaning g)) (core_fv_apart f) (core_fv_apart g)
core_fv_apart (Until interval f g) = joined_apart (fv (meaning f)) (fv (meaning g)) (core_fv_apart f) (core_fv_apart g)
core_fv_apart f = refl

-- free variables have no repeats
pub fv_apart : (f : Form) → all_apart (fv f) ≡ true
fv_apart f = ap all_apart (sym (normal_form_variables f).0) ∙ core_fv_apart (positive f)
