-- What the laws of the normal form and of new numbers say of the core.
use Rattle.std.proofs.Common.{◌≡◌, IfOk, None, Result, arith, rules, sym, subst}
use Rattle.std.proofs.{lemmas.Grind.common_steps, lemmas.Result.IfOk-weaker}
use Rattle.mfotl_model.specs.{FreeVariables.fv, Formulas.Form}
use Rattle.monitorable.proofs.CoreLaws.{accepted, core_of, negates, same_constants, same_variables, settles}
use Rattle.monitorable.proofs.SatisfyingLaw.{violations_satisfy}
use Rattle.monitorable.proofs.core_of_policy.to_core.Goals as goal
use Rattle.monitorable.specs.{CoreForms.CoreForm, CoreForms.meaning, Cores.core_form, Cores.policy_form, Fragment.frag}
use Rattle.monitorable.specs.{Fragment.free_names, Renaming.apart_form, SatisfyingRows.HasViolationsOf}
use Rattle.monitorable.specs.Negation.{HasConstantsOf, Negates, SettlesWith}
use Rattle.monitorable.specs.declared.{fault.FragmentFault.FragmentFault, policy_core.Core.Core}

pub core_apart-requires : goal.core_apart-requires
core_apart-requires c =
    let policy = c.args.policy.now in (
      free_names policy.vars,
      subst (λ g. frag (free_names policy.vars) g ≡ None) (sym c.in_ok-negation.ensures.negation)
          (accepted (free_names policy.vars) (policy_form policy) c.in_ok-negation.ensures.judged),
    )

-- what holds of a tree holds of the core that was made of it
carried : (P : CoreForm → Type 0) (f : CoreForm) (result : Result Core FragmentFault) → P f
    → IfOk result (λ core. core_form core ≡ f) → IfOk result (λ core. P (core_form core))
carried P f result holds made = IfOk-weaker result _ _ (λ core e. subst P (sym e) holds) made

pub returns : goal.returns
returns c =
    let f : Form = policy_form c.args.policy.now in
    let made : IfOk c.core_apart.result (λ core. core_form core ≡ core_of f) =
    subst (λ g. IfOk c.core_apart.result (λ core. core_form core ≡ apart_form g)) c.in_ok-negation.ensures.negation
    c.core_apart.ensures.core in
    record {
      judged = first_of (search rules, grind (arith, common_steps));
      core = made;
      negates = carried (λ g. Negates g f) (core_of f) _ (negates f) made;
      settles = carried (λ g. SettlesWith g f) (core_of f) _ (settles f) made;
      fits = IfOk-weaker _ _ _ (λ (core : Core) (e : core_form core ≡ core_of f). core.in_fragment) made;
      variables = carried (λ g. fv (meaning g) ≡ fv f) (core_of f) _ (same_variables f) made;
      constants = carried (λ g. HasConstantsOf g f) (core_of f) _ (same_constants f) made;
      apart = IfOk-weaker _ _ _ (λ (core : Core) (e : core_form core ≡ core_of f). core.is_apart) made;
      violations = carried (λ g. HasViolationsOf g f) (core_of f) _
          (violations_satisfy f (core_of f) (negates f) (same_variables f) (same_constants f)) made;
    }
