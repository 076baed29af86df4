-- What is settled in a log stays settled, and its violations stay as they are.
use Rattle.std.proofs.Common.{◌≡◌, ℕ, ◌<◌, ◌≤◌, true, nat_eq, List, [], ◌∷◌, ◌++◌, length, sym, ◌∙◌, arith}
use Rattle.std.proofs.lemmas.List.{length-map, map-append}
use Rattle.std.specs.List.{list_all, filter}
use Rattle.mfotl_model.proofs.{AscendingLemmas.same_ascending, CountLemmas.counted_settled, RowLemmas.row_exact}
use Rattle.mfotl_model.specs.{Domains.in_domain, FreeVariables.fv, FreeVariables.among, Log.times}
use Rattle.mfotl_model.specs.{Satisfaction.Valuation, Settled.settled, Tables.valuation, Times.NeverFalls}
use Rattle.mfotl_model.specs.{Values.row_total, Violations.all_rows}
use Rattle.mfotl_model.specs.declared.{event.TimePoint.TimePoint, value.Value.Value}
use Rattle.monitor_nodes.proofs.CountLemmas.{count_grows, count_within}
use Rattle.monitorable.proofs.{DomainLaw.domain, FinalityLaw.finality, FreeVariableLemmas.fv_apart}
use Rattle.monitorable.proofs.{ViolationsFinal.itself, ViolationsFinal.agreeing}
use Rattle.monitorable.proofs.DomainRows.{found, grows, has_constants, has_log, row_within}
use Rattle.monitorable.specs.{CoreForms.CoreForm, CoreForms.meaning, Fragment.IsMonitorable}
use Rattle.monitorable.specs.SatisfyingRows.{core_domain, satisfies, satisfying_rows}
use Rattle.monitor_state.specs.Laws.{PolicyViolations}
use Rattle.monitor_state.specs.Verdicts.{MayFollow, settled_in, violations_at}

-- the timestamps of a longer log
pub times_more : (log : List TimePoint) (p : TimePoint) → times (log ++ p ∷ []) ≡ times log ++ p.ts ∷ []
times_more log p = map-append (λ (q : TimePoint). q.ts) log (p ∷ [])

pub settled_more : (c : CoreForm) (log : List TimePoint) (p : TimePoint) → MayFollow log p
    → settled_in c log ≤ settled_in c (log ++ p ∷ [])
settled_more c log p m = grind (arith, times_more, count_grows)

pub settled_within : (c : CoreForm) (log : List TimePoint) → settled_in c log ≤ length log
settled_within c log = grind (arith, count_within, length-map)

module _ (g : CoreForm) (log more : List TimePoint) (i : ℕ) (fits : IsMonitorable g)
    (rising : NeverFalls (times (log ++ more)))
    (set : settled (times log) (meaning g) i ≡ true) where
  abbrev vars : List ℕ
  vars = fv (meaning g)

  abbrev dom : List Value
  dom = core_domain log g

  abbrev longer_dom : List Value
  longer_dom = core_domain (log ++ more) g

  satisfies_same : (q : List Value) → satisfies log g i q ≡ satisfies (log ++ more) g i q
  satisfies_same q =
      let v : Valuation = valuation vars q in
      (domain log dom (λ y. []) g (fits (λ y. [])) (has_log log (meaning g)) (has_constants log (meaning g)) v i).1
      dom longer_dom (itself dom) (grows log more (meaning g))
      ∙ finality log more longer_dom (meaning g) v i rising set

  values_within : (q : List Value) → satisfies log g i q ≡ true → nat_eq (length q) (length vars) ≡ true
      → (list_all (in_domain dom) q ≡ true) × (list_all (in_domain longer_dom) q ≡ true)
  values_within q h len =
      let v : Valuation = valuation vars q in
      let inside = λ (y : ℕ) (m : among y vars ≡ true).
      (domain log dom (λ y. []) g (fits (λ y. [])) (has_log log (meaning g)) (has_constants log (meaning g)) v i).0
      dom y h m in (
        row_within vars q dom (fv_apart (meaning g)) len inside,
        row_within vars q longer_dom (fv_apart (meaning g)) len (λ y m. grows log more (meaning g) (v y) (inside y m)),
      )

  same_rows : satisfying_rows log g i ≡ satisfying_rows (log ++ more) g i
  same_rows =
      same_ascending row_total row_exact
      (filter (satisfies log g i) (all_rows (length vars) dom))
      (filter (satisfies (log ++ more) g i) (all_rows (length vars) longer_dom))
      (λ q.
      found (satisfies log g i) (length vars) dom q
      ∙ agreeing (satisfies log g i q) (satisfies (log ++ more) g i q) (nat_eq (length q) (length vars))
      (list_all (in_domain dom) q) (list_all (in_domain longer_dom) q)
      (satisfies_same q) (values_within q)
      ∙ sym (found (satisfies (log ++ more) g i) (length vars) longer_dom q))

pub viol_final : (c : CoreForm) (log : List TimePoint) (p : TimePoint) (i : ℕ) → IsMonitorable c → MayFollow log p
    → i < settled_in c log → violations_at c log i ≡ violations_at c (log ++ p ∷ []) i
unfolding violations_at
viol_final c log p i fits m h = search (same_rows, counted_settled)

pub policy_violations : PolicyViolations
unfolding violations_at
policy_violations core policy log i h = sym (h log i)
