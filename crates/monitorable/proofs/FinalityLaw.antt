-- What is settled stays as it is in every longer log.
use Rattle.std.proofs.Common.{◌≡◌, ℕ, zero, ◌+◌, ◌-◌, ◌<◌, Bool, true, ◌&&◌, ◌||◌, nat_eq, List, ◌++◌, length, not}
use Rattle.std.proofs.Common.{refl, sym, ap, ◌∙◌, arith, length-append}
use Rattle.std.proofs.{lemmas.Bool.and_parts, lemmas.Bool.lt-ltb, lemmas.Bool.Decides.nat_tests}
use Rattle.std.proofs.lemmas.List.{get_or_append_left, length-map, map-append}
use Rattle.mfotl_model.proofs.LogicLemmas.{any_alike, truth_is}
use Rattle.mfotl_model.specs.{Formulas.Form, Log.times, Times.NeverFalls}
use Rattle.mfotl_model.specs.Satisfaction.{Valuation, sat, with_value, database_at, time_at, truth_at, previous, next}
use Rattle.mfotl_model.specs.Satisfaction.{truths}
use Rattle.mfotl_model.specs.Settled.{settled, previous_settled, next_settled}
use Rattle.mfotl_model.specs.declared.{event.TimePoint.TimePoint, interval.Interval.Interval, value.Value.Value}
use Rattle.monitorable.proofs.{CoreSettled.reaches, CoreSettled.since_ready, NormalFormLaws.normal_form_holds}
use Rattle.monitorable.proofs.{NormalFormLaws.normal_form_settled, SettledLemmas.settled_in_log}
use Rattle.monitorable.proofs.TemporalLemmas.{Same, since_same, until_same}
use Rattle.monitorable.specs.CoreForms.{CoreForm, meaning, Atom, Not, And, Or, Exists, Previous, Next, Since, Until}
use Rattle.monitorable.specs.{Laws.Finality, NormalForm.positive}

pub within_log : (log : List TimePoint) (f : Form) (j : ℕ) → settled (times log) f j ≡ true → j < length log
within_log log f j h = grind (arith, settled_in_log, length-map)

-- PREVIOUS is settled at the first position, or where its operand is ready one position before
before_settled : (b c : Bool) (i : ℕ) → (b && (nat_eq i 0 || c)) ≡ true → 0 < i → c ≡ true
before_settled b c i h l = grind (arith, nat_tests)

module _ (log more : List TimePoint) where
  size : length (times log) ≡ length log
  size = length-map log (λ p. p.ts)

  size_more : length (times (log ++ more)) ≡ length log + length more
  size_more = length-map (log ++ more) (λ p. p.ts) ∙ length-append log more

  pub time_same : (j : ℕ) → j < length log → time_at (times log) j ≡ time_at (times (log ++ more)) j
  time_same j l = search (map-append, get_or_append_left, size)

  database_same : (j : ℕ) → j < length log → database_at log j ≡ database_at (log ++ more) j
  database_same j l = search (length-map, map-append, get_or_append_left)

  truth_same : (p q : ℕ → Bool) (j : ℕ) → j < length log → p j ≡ q j
      → truth_at (truths (length log) p) j ≡ truth_at (truths (length (log ++ more)) q) j
  truth_same p q j l e = grind (arith, truth_is, length-append)

  agree : (p q r s : ℕ → Bool) (j : ℕ) → j < length log → p j ≡ r j → q j ≡ s j
      → Same (times log) (times (log ++ more)) (truths (length log) p) (truths (length log) q)
      (truths (length (log ++ more)) r) (truths (length (log ++ more)) s) j
  agree p q r s j l e h = record { time = time_same j l; first = truth_same p r j l e; second = truth_same q s j l h }

  -- PREVIOUS, whose operand is ready one position before or whose position is the first
  previous_same : (I : Interval) (p q : ℕ → Bool) (i : ℕ) → i < length log → (0 < i → p (i - 1) ≡ q (i - 1))
      → previous I (times log) (truths (length log) p) i
      ≡ previous I (times (log ++ more)) (truths (length (log ++ more)) q) i
  unfolding previous
  previous_same I p q i l e = grind (arith, zero, time_same, truth_same)

  next_same : (I : Interval) (p q : ℕ → Bool) (i : ℕ) → i + 1 < length log → p (i + 1) ≡ q (i + 1)
      → next I (times log) (truths (length log) p) i ≡ next I (times (log ++ more)) (truths (length (log ++ more)) q) i
  unfolding next
  next_same I p q i l e = grind (arith, lt-ltb, size, size_more, time_same, truth_same)

  module _ (dom : List Value) (rising : NeverFalls (times (log ++ more))) where
    core_final : (f : CoreForm) (v : Valuation) (i : ℕ) → settled (times log) (meaning f) i ≡ true
        → sat log dom v i (meaning f) ≡ sat (log ++ more) dom v i (meaning f)
    unfolding sat settled previous_settled next_settled
    core_final (Atom atom) v i s = search (database_same, within_log)
    core_final (Not f) v i s = ap not (core_final f v i s)
    core_final (And f g) v i s =
        let p = and_parts (settled (times log) (meaning f) i) (settled (times log) (meaning g) i) s in
        rw (core_final f v i p.0, core_final g v i p.1)
    core_final (Or f g) v i s =
        let p = and_parts (settled (times log) (meaning f) i) (settled (times log) (meaning g) i) s in
        rw (core_final f v i p.0, core_final g v i p.1)
    core_final (Exists x f) v i s = any_alike _ _ dom (λ a. core_final f (with_value v x.number a) i s)
    core_final (Previous interval f) v i s =
        previous_same interval _ _ i (within_log log (meaning (Previous interval f)) i s)
        (λ l. core_final f v (i - 1) (before_settled _ _ i s l))
    core_final (Next interval f) v i s =
        let h = (and_parts _ (settled (times log) (meaning f) (i + 1)) s).1 in
        next_same interval _ _ i (within_log log (meaning f) (i + 1) h) (core_final f v (i + 1) h)
    core_final (Since interval f g) v i s =
        since_same interval _ _ _ _ _ _ i (λ j l.
        let p = and_parts (settled (times log) (meaning f) j) (settled (times log) (meaning g) j)
        (since_ready _ i j s l) in
        agree _ _ _ _ j (within_log log (meaning f) j p.0) (core_final f v j p.0) (core_final g v j p.1))
    core_final (Until interval f g) v i s =
        until_same interval _ _ _ _ _ _ _ i (reaches interval.hi (times log) _ i s) (omega (arith, size, size_more))
        rising (λ j l. time_same j (omega (arith, size))) (λ j l h.
        let p = and_parts (settled (times log) (meaning f) j) (settled (times log) (meaning g) j) h in
        agree _ _ _ _ j (omega (arith, size)) (core_final f v j p.0) (core_final g v j p.1))
    core_final f v i s = refl

pub finality : Finality
finality log more dom f v i rising s =
    sym (normal_form_holds log dom f v i).0
    ∙ core_final log more dom rising (positive f) v i ((normal_form_settled (times log) f i).0 ∙ s)
    ∙ (normal_form_holds (log ++ more) dom f v i).0
