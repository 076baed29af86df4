-- How the verdicts grow with the log.
use Rattle.std.proofs.Common.{◌≡◌, ◌∙◌, ap, ap₂, sym, refl, arith, ℕ, zero, suc, ◌+◌, ◌-◌, ◌<◌, ◌≤◌, List, [], ◌∷◌}
use Rattle.std.proofs.Common.{◌++◌, map, None}
use Rattle.std.specs.List.{range_with_len}
use Rattle.std.proofs.lemmas.List.{length-map, map-append}
use Rattle.mfotl_model.proofs.{CountLemmas.counted_settled, CountLemmas.passing_taken, LogicLemmas.range_front}
use Rattle.mfotl_model.specs.{Counts.settled_count, Formulas.Form, Log.times, Times.NeverFalls}
use Rattle.mfotl_model.specs.VerdictText.{VerdictOf, verdict_at, verdicts}
use Rattle.mfotl_model.specs.declared.event.TimePoint.{TimePoint}
use Rattle.monitor_nodes.proofs.CountLemmas.{count_grows}
use Rattle.monitorable.proofs.{CoreLaws.accepted, FinalityLaw.time_same, FinalityLaw.within_log}
use Rattle.monitorable.proofs.{ViolationsFinal.violations_final}
use Rattle.monitorable.specs.{Fragment.Names, Fragment.frag, Laws.log_of, NormalForm.negative}
use Rattle.monitor_main.specs.{TextLaw.VerdictsGrow, Verdicts.news, Verdicts.reached}

mapped : (f g : ℕ → VerdictOf) (i n : ℕ) → ((j : ℕ) → i ≤ j → j < i + n → f j ≡ g j)
    → map f (range_with_len i n) ≡ map g (range_with_len i n)
mapped f g i zero same = refl
mapped f g i (suc n) same =
    ap₂ (λ x xs. x ∷ xs) (same i (omega arith) (omega arith))
    (mapped f g (i + 1) n (λ j low high. same j (omega arith) (omega arith)))

-- the verdicts are those on the positions that are counted
pub counted : (log : List TimePoint) (policy : Form)
    → verdicts (log_of log) policy ≡ map (verdict_at log policy) (range_with_len 0 (reached log policy))
unfolding settled_count
counted log policy = simp (passing_taken, length-map)

module _ (log : List TimePoint) (point : TimePoint) (policy : Form)
    (rising : NeverFalls (times (log ++ point ∷ []))) where
  longer : List TimePoint
  longer = log ++ point ∷ []

  -- no position is settled no longer
  pub none_lost : reached log policy ≤ reached (log ++ point ∷ []) policy
  none_lost = grind (arith, map-append, count_grows)

  module _ (names : Names) (fits : frag names (negative policy) ≡ None) where
    stays : (j : ℕ) → 0 ≤ j → j < 0 + reached log policy
        → verdict_at (log ++ point ∷ []) policy j ≡ verdict_at log policy j
    stays j low high = grind (arith, counted_settled, ap₂, time_same, within_log, violations_final)

    pub grows : verdicts (log_of (log ++ point ∷ [])) policy ≡ verdicts (log_of log) policy ++ news policy log point
    unfolding news
    grows =
        let n : ℕ = reached log policy in
        let m : ℕ = reached (log ++ point ∷ []) policy - n in
        let least : n ≤ reached (log ++ point ∷ []) policy = none_lost in
        let sum : reached (log ++ point ∷ []) policy ≡ n + m = omega arith in
        let start : 0 + n ≡ n = omega arith in
        let verdict = verdict_at (log ++ point ∷ []) policy in
        counted (log ++ point ∷ []) policy
        ∙ ap (λ k. map verdict (range_with_len 0 k)) sum
        ∙ ap (map verdict) (range_front 0 n m)
        ∙ map-append verdict (range_with_len 0 n) (range_with_len (0 + n) m)
        ∙ ap (λ k. map verdict (range_with_len 0 n) ++ map verdict (range_with_len k m)) start
        ∙ ap (λ vs. vs ++ map verdict (range_with_len n m))
        (mapped verdict (verdict_at log policy) 0 n stays ∙ sym (counted log policy))

pub verdicts_grow : VerdictsGrow
verdicts_grow log point names policy rising h = grows log point policy rising names (accepted names policy h)
