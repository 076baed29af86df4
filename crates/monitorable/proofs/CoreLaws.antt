-- What the laws of the normal form and of new numbers say of the core of a policy.
use Rattle.std.proofs.Common.{◌≡◌, [], ap, pos, ◌∙◌, Bool, cond, nat_lt, Option, Some, None, arith}
use Rattle.mfotl_model.specs.{Formulas.Form, FreeVariables.fv, Domains.in_domain}
use Rattle.mfotl_model.specs.declared.value.Value.TheVariants.{Int}
use Rattle.monitorable.proofs.{NormalFormLaws.normal_form_holds, NormalFormLaws.normal_form_settled}
use Rattle.monitorable.proofs.{NormalFormVariables.normal_form_constants, NormalFormVariables.normal_form_variables}
use Rattle.monitorable.proofs.{RenamedConstants.apart_constants, RenamedMeaning.apart_means_the_same}
use Rattle.monitorable.proofs.{RenamedVariables.apart_variables}
use Rattle.monitorable.specs.{CoreForms.CoreForm, CoreForms.meaning, Limits.node_limit, NodeCount.nodes}
use Rattle.monitorable.specs.{NormalForm.negative, Renaming.apart_form}
use Rattle.monitorable.specs.Fragment.{Names, frag, frag_fault}
use Rattle.monitorable.specs.Negation.{HasConstantsOf, Negates, SettlesWith}
use Rattle.monitorable.specs.declared.{fault.FragmentFault.FragmentFault, fault.FragmentFault.TheVariants.TooLarge}

-- the core of a formula
abbrev pub core_of : Form → CoreForm
core_of f = apart_form (negative f)

pub negates : (f : Form) → Negates (core_of f) f
negates f log dom v i = grind (arith, apart_means_the_same log dom (negative f) v i, normal_form_holds log dom f v i)

pub settles : (f : Form) → SettlesWith (core_of f) f
settles f times i =
    (apart_means_the_same [] [] (negative f) (λ y. Int (pos 0)) i).1 times ∙ (normal_form_settled times f i).1

pub same_variables : (f : Form) → fv (meaning (core_of f)) ≡ fv f
same_variables f = (apart_variables (negative f)).0 ∙ (normal_form_variables f).1

pub same_constants : (f : Form) → HasConstantsOf (core_of f) f
same_constants f a = ap (λ values. in_domain values a) (apart_constants (negative f)) ∙ (normal_form_constants f a).1

small : (b : Bool) (fault : Option FragmentFault) → cond b (Some TooLarge) fault ≡ None → fault ≡ None
small b fault h = grind arith

-- where a formula has no fault, the fragment accepts the normal form of its negation
pub accepted : (names : Names) (f : Form) → frag_fault names f ≡ None → frag names (negative f) ≡ None
accepted names f h = small (nat_lt node_limit (nodes (negative f))) (frag names (negative f)) h
