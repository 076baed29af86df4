-- The text of a log is a prefix of the text of every longer one.
use Rattle.std.proofs.Common.{◌≡◌, ℕ, zero, suc, ◌+◌, ◌≤◌, Bool, true, List, ◌++◌, map, length, None, refl, ap, ap₂}
use Rattle.std.proofs.Common.{◌∙◌, inl, inr, arith, length-append}
use Rattle.std.proofs.{lemmas.Bool.cases_Bool, lemmas.Grind.flat_map-append, lemmas.List.map-append}
use Rattle.std.proofs.{lemmas.List.Sums.take_while-cons}
use Rattle.std.specs.List.{flat_map, range_with_len, take_while}
use Rattle.mfotl_model.specs.{Log.times, Settled.settled}
use Rattle.mfotl_model.specs.VerdictText.{VerdictOf, line_of, verdict_at, verdicts}
use Rattle.monitorable.proofs.{CoreLaws.accepted, FinalityLaw.time_same, FinalityLaw.within_log}
use Rattle.monitorable.proofs.{SettledStays.settled_stays, ViolationsFinal.violations_final}
use Rattle.monitorable.specs.{Fragment.frag, Laws.TextFinal, Laws.log_of, NormalForm.negative}

-- two lists of verdicts, each as far as its test holds, where the second test holds wherever the first does
module _ (p q : ℕ → Bool) (v w : ℕ → VerdictOf) (follows : (i : ℕ) → p i ≡ true → q i ≡ true)
    (same : (i : ℕ) → p i ≡ true → v i ≡ w i) where
  longer : (a n m : ℕ) → n ≤ m → (rest : List VerdictOf)
      × (map w (take_while q (range_with_len a m)) ≡ map v (take_while p (range_with_len a n)) ++ rest)
  longer a zero m l = (map w (take_while q (range_with_len a m)), refl)
  longer a (suc n) zero l = absurd (omega arith)
  longer a (suc n) (suc m) l =
      elim (cases_Bool (p a)) [
        | inl e ↦
            let r = longer (a + 1) n m (omega arith) in
            (r.0, simp (take_while-cons q a, take_while-cons p a) (simp (e, follows a e, same a e, r.1)))
        | inr e ↦ (map w (take_while q (range_with_len a (suc m))), simp e)
      ]

pub text_final : TextFinal
text_final log more names f rising h =
    let p : ℕ → Bool = settled (times log) f in
    let q : ℕ → Bool = settled (times (log ++ more)) f in
    let fits : frag names (negative f) ≡ None = accepted names f h in
    let joined : times (log ++ more) ≡ times log ++ times more = map-append (λ t. t.ts) log more in
    let r = longer p q (verdict_at log f) (verdict_at (log ++ more) f)
    (λ i h. ap (λ t. settled t f i) joined
    ∙ settled_stays (times log) (times more) (rw joined at rising) f i h)
    (λ i h. ap₂ (λ t rows. record { point = i; ts = t; rows = rows })
    (time_same log more i (within_log log f i h))
    (violations_final log more names f i rising fits h))
    0 (length log) (length (log ++ more)) (omega (arith, length-append log more)) in (
      flat_map line_of r.0,
      ap (flat_map line_of) r.1
          ∙ flat_map-append line_of (verdicts (log_of log) f) r.0,
    )
