-- The verdicts of a world are those of each policy that its core is one of.
use Rattle.std.proofs.Common.{◌≡◌, ◌∙◌, ap, ap₂, sym, refl, ℕ, zero, suc, ◌+◌, ◌≤◌, ◌<◌, append-nil, arith, Bool, List}
use Rattle.std.proofs.Common.{[], ◌∷◌, ◌++◌, map, take, drop}
use Rattle.std.specs.List.{range_with_len}
use Rattle.std.proofs.{lemmas.Grind.flat_map-append, lemmas.List.length-map, lemmas.List.take-append-drop}
use Rattle.std.proofs.{lemmas.List.FromFn.take-map-range_with_len}
use Rattle.mfotl_model.specs.{Counts.passing, Counts.settled_count, Formulas.Form, Log.times}
use Rattle.mfotl_model.specs.VerdictText.{VerdictOf, line_of, verdict_at, verdicts}
use Rattle.mfotl_model.specs.declared.event.TimePoint.{TimePoint}
use Rattle.mfotl_model.proofs.CountLemmas.{passing_taken}
use Rattle.monitorable.specs.{CoreForms.CoreForm, Laws.log_of}
use Rattle.monitor_state.proofs.LogLemmas.{policy_violations}
use Rattle.monitor_state.specs.{Verdicts.settled_in, Verdicts.verdict_on}
use Rattle.lone_worker.specs.{Policies.IsCoreOf, Texts.lines}
use Rattle.lone_worker.specs.Verdicts.{all_verdicts, first_verdicts, seen}

-- functions that agree there map a range alike
pub same_below : (f g : ℕ → VerdictOf) (j n : ℕ) → ((i : ℕ) → i < j + n → f i ≡ g i)
    → map f (range_with_len j n) ≡ map g (range_with_len j n)
same_below f g j zero same = refl
same_below f g j (suc n) same =
    ap₂ (λ x xs. x ∷ xs) (same j (omega arith)) (same_below f g (j + 1) n (λ i below. same i (omega arith)))

-- a line more
pub lines_more : (vs : List VerdictOf) (v : VerdictOf) → lines (vs ++ v ∷ []) ≡ lines vs ++ line_of v
lines_more vs v = flat_map-append line_of vs (v ∷ []) ∙ ap (λ l. lines vs ++ l) (append-nil (line_of v))

-- tests that agree let as many pass
passing_same : (p q : ℕ → Bool) → ((j : ℕ) → p j ≡ q j) → (i n : ℕ) → passing p i n ≡ passing q i n
passing_same p q same i n = grind (arith, zero, ap₂)

-- the verdicts are those on the positions that are counted
counted : (log : List TimePoint) (policy : Form) → verdicts (log_of log) policy
    ≡ map (verdict_at log policy) (range_with_len 0 (settled_count (times log) policy))
unfolding settled_count
counted log policy = search (passing_taken, length-map)

module _ (core : CoreForm) (policy : Form) (is : IsCoreOf core policy) (points : List TimePoint) where
  -- a core is settled as far as its policy
  settled_same : settled_in core points ≡ settled_count (times points) policy
  unfolding settled_count
  settled_same = grind (arith, passing_same)

  one_same : (i : ℕ) → seen (verdict_on core points i) ≡ verdict_at points policy i
  one_same i = cc (policy_violations core policy points i is.violations)

  pub policy_verdicts : all_verdicts core points ≡ verdicts (log_of points) policy
  policy_verdicts =
      same_below (λ i. seen (verdict_on core points i)) (verdict_at points policy) 0 (settled_in core points)
      (λ i below. one_same i)
      ∙ ap (λ n. map (verdict_at points policy) (range_with_len 0 n)) settled_same
      ∙ sym (counted points policy)

-- the lines of the first verdicts stand before those of the others
pub first_lines : (core : CoreForm) (points : List TimePoint) (n : ℕ) → n ≤ settled_in core points → (rest : List ℕ)
    × (lines (all_verdicts core points) ≡ lines (first_verdicts core points n) ++ rest)
first_lines core points n within =
    let verdict : ℕ → VerdictOf = λ i. seen (verdict_on core points i) in
    let all = all_verdicts core points in (
      lines (drop n all),
      ap lines (sym (take-append-drop n all)) ∙ flat_map-append line_of (take n all) (drop n all)
          ∙ ap (λ vs. lines vs ++ lines (drop n all))
          (take-map-range_with_len verdict 0 (settled_in core points) n within),
    )
