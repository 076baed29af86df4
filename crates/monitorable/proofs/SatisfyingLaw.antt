-- The violations of a formula are the rows that satisfy a core which negates it, and these rows lie in the domain.
use Rattle.std.proofs.Common.{◌≡◌, ℕ, true, nat_eq, List, ◌++◌, length, None}
use Rattle.std.proofs.lemmas.List.Folds.{list_any-append}
use Rattle.std.specs.List.{list_all}
use Rattle.mfotl_model.proofs.{AscendingLemmas.same_ascending, LogicLemmas.funext, RowLemmas.value_exact}
use Rattle.mfotl_model.specs.ActiveDomain.{adom, constants, log_values}
use Rattle.mfotl_model.specs.{Domains.Includes, Domains.in_domain, FreeVariables.fv, Tables.valuation}
use Rattle.mfotl_model.specs.{Values.value_total, Violations.violates}
use Rattle.mfotl_model.specs.declared.{event.TimePoint.TimePoint, value.Value.Value}
use Rattle.monitorable.proofs.{DomainLaw.domain, FreeVariableLemmas.fv_apart}
use Rattle.monitorable.proofs.DomainRows.{has_constants, has_log, row_within}
use Rattle.monitorable.specs.{CoreForms.CoreForm, CoreForms.meaning, Fragment.Names, Fragment.frag}
use Rattle.monitorable.specs.{Laws.ViolationsSatisfy, SatisfyingRows.core_domain, SatisfyingRows.satisfies}

pub violations_satisfy : ViolationsSatisfy
violations_satisfy f g negates variables same_constants log i =
    let same_domain : core_domain log g ≡ adom log f =
    same_ascending value_total value_exact (log_values log ++ constants (meaning g)) (log_values log ++ constants f)
    (λ a. simp (list_any-append, same_constants a)) in
    let alike : satisfies log g i ≡ violates log f i =
    funext _ _ (λ row. rw (same_domain, variables) (negates log (adom log f) (valuation (fv f) row) i)) in
    rw (alike, same_domain, variables)

-- where a core holds of a row, the row's values lie in each domain that includes the core's
pub row_inside : (log : List TimePoint) (names : Names) (g : CoreForm) (i : ℕ) → frag names g ≡ None
    → (dom : List Value) → Includes dom (core_domain log g) → (row : List Value)
    → nat_eq (length row) (length (fv (meaning g))) ≡ true → satisfies log g i row ≡ true
    → list_all (in_domain dom) row ≡ true
row_inside log names g i accepted dom includes row size holds =
    let v = valuation (fv (meaning g)) row in
    row_within (fv (meaning g)) row dom (fv_apart (meaning g)) size (λ y m. includes (v y)
    ((domain log (core_domain log g) names g accepted (has_log log (meaning g)) (has_constants log (meaning g)) v i).0
    (core_domain log g) y holds m))
