-- Whether a formula holds hangs on its free variables alone.
use Rattle.std.proofs.Common.{refl, sym, ap, ◌∙◌}
use Rattle.mfotl_model.specs.FreeVariables.{among}
use Rattle.monitorable.proofs.{NormalFormLaws.normal_form_holds, NormalFormVariables.normal_form_variables}
use Rattle.monitorable.proofs.{RenamedMeaning.carried, RenamedMeaning.renamed_holds}
use Rattle.monitorable.specs.{CoreForms.CoreForm, Laws.Coincidence, NormalForm.positive}

-- its normal form in new numbers holds of one valuation where it holds of the other
pub coincidence : Coincidence
coincidence log dom f v w i agree =
    let g : CoreForm = positive f in
    sym (normal_form_holds log dom f v i).0 ∙ sym (renamed_holds log dom g i (carried g v v (λ y h. refl)))
    ∙ renamed_holds log dom g i
    (carried g v w (λ y h. agree y (ap (among y) (sym (normal_form_variables f).0) ∙ h)))
    ∙ (normal_form_holds log dom f w i).0
