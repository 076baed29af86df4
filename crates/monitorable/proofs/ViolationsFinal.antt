-- The violations at a settled position stay as they are in every longer log.
use Rattle.std.proofs.Common.{◌≡◌, ℕ, Bool, true, ◌&&◌, List, ◌++◌, length, None, sym, ◌∙◌, arith}
use Rattle.mfotl_model.proofs.{AscendingLemmas.same_ascending, RowLemmas.row_exact}
use Rattle.mfotl_model.specs.{Domains.Includes, FreeVariables.fv, Log.times, Settled.settled, Tables.valuation}
use Rattle.mfotl_model.specs.{Times.NeverFalls, Values.row_total}
use Rattle.mfotl_model.specs.declared.{event.TimePoint.TimePoint, value.Value.Value}
use Rattle.monitorable.proofs.{DomainLaw.domain, FinalityLaw.finality, NormalFormLaws.normal_form_holds}
use Rattle.monitorable.proofs.{NormalFormLaws.normal_form_settled, NormalFormVariables.normal_form_variables}
use Rattle.monitorable.proofs.{NormalFormVariables.normal_form_constants, SatisfyingLaw.row_inside}
use Rattle.monitorable.proofs.{SatisfyingLaw.violations_satisfy}
use Rattle.monitorable.proofs.DomainRows.{found, grows, has_constants, has_log}
use Rattle.monitorable.specs.{CoreForms.CoreForm, CoreForms.meaning, Fragment.Names, Fragment.frag}
use Rattle.monitorable.specs.{Laws.ViolationsFinal, NormalForm.negative}
use Rattle.monitorable.specs.SatisfyingRows.{HasViolationsOf, core_domain, satisfies, satisfying_rows}

pub itself : (dom : List Value) → Includes dom dom
itself dom a h = h

pub agreeing : (s t len l m : Bool) → s ≡ t → (s ≡ true → len ≡ true → (l ≡ true) × (m ≡ true))
    → (s && (len && l)) ≡ (t && (len && m))
agreeing s t len l m e h = grind arith

module _ (log more : List TimePoint) (names : Names) (g : CoreForm) (i : ℕ)
    (rising : NeverFalls (times (log ++ more))) (accepted : frag names g ≡ None)
    (set : settled (times log) (meaning g) i ≡ true) where
  satisfies_same : (row : List Value) → satisfies log g i row ≡ satisfies (log ++ more) g i row
  satisfies_same row =
      (domain log (core_domain log g) names g accepted (has_log log (meaning g)) (has_constants log (meaning g))
      (valuation (fv (meaning g)) row) i).1
      (core_domain log g) (core_domain (log ++ more) g) (itself (core_domain log g)) (grows log more (meaning g))
      ∙ finality log more (core_domain (log ++ more) g) (meaning g) _ i rising set

  rows_same : satisfying_rows log g i ≡ satisfying_rows (log ++ more) g i
  rows_same =
      same_ascending row_total row_exact _ _ (λ row.
      found (satisfies log g i) (length (fv (meaning g))) (core_domain log g) row
      ∙ agreeing (satisfies log g i row) (satisfies (log ++ more) g i row) _ _ _ (satisfies_same row)
      (λ holds size. (
        row_inside log names g i accepted (core_domain log g) (itself (core_domain log g)) row size holds,
        row_inside log names g i accepted (core_domain (log ++ more) g) (grows log more (meaning g)) row size holds,
      ))
      ∙ sym (found (satisfies (log ++ more) g i) (length (fv (meaning g))) (core_domain (log ++ more) g) row))

pub violations_final : ViolationsFinal
violations_final log more names f i rising accepted set =
    let is : HasViolationsOf (negative f) f =
    violations_satisfy f (negative f) (λ log dom v i. (normal_form_holds log dom f v i).1) (normal_form_variables f).1
    (λ a. (normal_form_constants f a).1) in
    is log i
    ∙ rows_same log more names (negative f) i rising accepted ((normal_form_settled (times log) f i).1 ∙ set)
    ∙ sym (is (log ++ more) i)
