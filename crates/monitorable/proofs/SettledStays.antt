-- What is settled is settled in every longer log, there and at each position before.
use Rattle.std.proofs.Common.{◌≡◌, ℕ, ◌+◌, ◌-◌, ◌<◌, ◌≤◌, Bool, true, ◌&&◌, List, ◌++◌, length, Option, sym, ◌∙◌, arith}
use Rattle.std.proofs.Common.{length-append}
use Rattle.std.proofs.lemmas.Bool.{and_parts, and_from, cases_lt}
use Rattle.std.proofs.{lemmas.Bool.Decides.nat_tests, lemmas.List.get_or_append_left}
use Rattle.mfotl_model.proofs.LogicLemmas.{all_from}
use Rattle.mfotl_model.specs.{Satisfaction.time_at, Times.NeverFalls}
use Rattle.mfotl_model.specs.Settled.{settled, previous_settled, next_settled, since_settled, until_settled}
use Rattle.monitorable.proofs.CoreSettled.{reaches, settles, since_ready}
use Rattle.monitorable.proofs.NormalFormLaws.{normal_form_settled}
use Rattle.monitorable.specs.CoreForms.{CoreForm, meaning, Not, And, Or, Exists, Previous, Next, Since, Until}
use Rattle.monitorable.specs.{Laws.SettledStays, NormalForm.positive}

both : {a b c d : Bool} → (a ≡ true → c ≡ true) → (b ≡ true → d ≡ true) → (a && b) ≡ true → (c && d) ≡ true
both {a} {b} {c} {d} left right h = let p = and_parts a b h in and_from c d (left p.0) (right p.1)

-- one log begins with the other, and its timestamps never fall
module _ (t u : List ℕ) (more : length t ≤ length u) (rising : NeverFalls u)
    (same : (j : ℕ) → j < length t → time_at u j ≡ time_at t j) where
  -- what is ready in the one is ready in the other, up to the same position
  abbrev pub Down : (ℕ → Bool) → (ℕ → Bool) → Type 0
  Down ready ready' = (i j : ℕ) → j ≤ i → ready i ≡ true → ready' j ≡ true

  previous_down : (ready ready' : ℕ → Bool) → Down ready ready'
      → Down (previous_settled t ready) (previous_settled u ready')
  unfolding previous_settled
  previous_down ready ready' down i j l h = grind (arith, nat_tests, down (i - 1) (j - 1))

  next_down : (ready ready' : ℕ → Bool) → Down ready ready' → Down (next_settled t ready) (next_settled u ready')
  unfolding next_settled
  next_down ready ready' down i j l h = grind (arith, nat_tests, down (i + 1) (j + 1))

  since_down : (ready ready' : ℕ → Bool) → Down ready ready' → Down (since_settled ready) (since_settled ready')
  unfolding since_settled
  since_down ready ready' down i j l h =
      all_from ready' 0 (j + 1) (λ k low high. down k k (omega arith) (since_ready ready i k h (omega arith)))

  until_down : (greatest : Option ℕ) (ready ready' : ℕ → Bool) → Down ready ready'
      → Down (until_settled greatest t ready) (until_settled greatest u ready')
  until_down greatest ready ready' down i j l h = grind (arith, reaches, settles, cases_lt)

  pub core_down : (f : CoreForm) → Down (settled t (meaning f)) (settled u (meaning f))
  unfolding settled
  core_down (Not f) i j l h = core_down f i j l h
  core_down (And f g) i j l h = both (core_down f i j l) (core_down g i j l) h
  core_down (Or f g) i j l h = both (core_down f i j l) (core_down g i j l) h
  core_down (Exists x f) i j l h = core_down f i j l h
  core_down (Previous interval f) i j l h = previous_down _ _ (core_down f) i j l h
  core_down (Next interval f) i j l h = next_down _ _ (core_down f) i j l h
  core_down (Since interval f g) i j l h =
      since_down _ _ (λ i j l. both (core_down f i j l) (core_down g i j l)) i j l h
  core_down (Until interval f g) i j l h =
      until_down interval.hi _ _ (λ i j l. both (core_down f i j l) (core_down g i j l)) i j l h
  core_down f i j l h = grind (arith, nat_tests)

pub settled_stays : SettledStays
settled_stays t more rising f i h =
    sym (normal_form_settled (t ++ more) f i).0
    ∙ core_down t (t ++ more) (omega (arith, length-append t more)) rising (get_or_append_left t more 0) (positive f)
    i i (omega arith) ((normal_form_settled t f i).0 ∙ h)
