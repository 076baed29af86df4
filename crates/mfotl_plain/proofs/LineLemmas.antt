-- The lines of a log, one after another.
use Rattle.std.proofs.Common.{◌≡◌, ℕ, ◌+◌, ◌-◌, ◌<◌, ◌≤◌, Bool, true, false, append-nil, List, ◌∷◌, ◌++◌, length, map}
use Rattle.std.proofs.Common.{take, suc, arith, cond, ap, sym, ◌∙◌, append_assoc}
use Rattle.std.specs.List.{flat_map, prefix_len, range_with_len, take_while}
use Rattle.mfotl_model.specs.declared.event.TimePoint.{TimePoint}
use Rattle.mfotl_model.specs.{Formulas.Form, Log.times, Settled.settled, VerdictText.line_of, VerdictText.verdict_at}
use Rattle.mfotl_plain.proofs.SettlingLemmas.{range_cons}

-- the lines of the positions from one on, as far as they are settled
abbrev pub lines_from : List TimePoint → Form → List ℕ → List ℕ
lines_from log f positions =
    flat_map line_of (map (verdict_at log f) (take_while (settled (times log) f) positions))

taken_first : (p : ℕ → Bool) (x : ℕ) (xs : List ℕ) → p x ≡ true
    → take_while p (x ∷ xs) ≡ x ∷ take_while p xs
taken_first p x xs h =
    let more : 1 + prefix_len p xs ≡ suc (prefix_len p xs) = omega arith in
    ap (λ b. take (cond b (1 + prefix_len p xs) 0) (x ∷ xs)) h ∙ ap (λ k. take k (x ∷ xs)) more

-- after the line of a settled position was written
pub line_written : (log : List TimePoint) (f : Form) (i : ℕ) (out after whole : List ℕ)
    → i < length log → settled (times log) f i ≡ true → after ≡ out ++ line_of (verdict_at log f i)
    → out ++ lines_from log f (range_with_len i (length log - i)) ≡ whole
    → after ++ lines_from log f (range_with_len (i + 1) (length log - (i + 1))) ≡ whole
line_written log f i out after whole within is adds before =
    let line : List ℕ = line_of (verdict_at log f i) in
    let others : List ℕ = range_with_len (i + 1) (length log - (i + 1)) in
    ap (λ o. o ++ lines_from log f others) adds
    ∙ append_assoc out line (lines_from log f others)
    ∙ ap (λ ps. out ++ flat_map line_of (map (verdict_at log f) ps))
    (sym (taken_first (settled (times log) f) i others is))
    ∙ ap (λ ps. out ++ lines_from log f ps) (sym (range_cons i (length log) within))
    ∙ before

-- where the next position isn't settled, nothing more is written
pub text_stopped : (log : List TimePoint) (f : Form) (i : ℕ) (out whole : List ℕ) → i < length log
    → settled (times log) f i ≡ false
    → out ++ lines_from log f (range_with_len i (length log - i)) ≡ whole → out ≡ whole
text_stopped log f i out whole within is before =
    let others : List ℕ = range_with_len (i + 1) (length log - (i + 1)) in
    sym (append-nil out)
    ∙ ap (λ b. out ++ flat_map line_of (map (verdict_at log f)
    (take (cond b (1 + prefix_len (settled (times log) f) others) 0) (i ∷ others)))) (sym is)
    ∙ ap (λ ps. out ++ lines_from log f ps) (sym (range_cons i (length log) within))
    ∙ before

-- nor behind the last position
pub text_finished : (log : List TimePoint) (f : Form) (i : ℕ) (out whole : List ℕ) → length log ≤ i
    → out ++ lines_from log f (range_with_len i (length log - i)) ≡ whole → out ≡ whole
text_finished log f i out whole past before =
    let none : 0 ≡ length log - i = omega arith in
    sym (append-nil out)
    ∙ ap (λ k. out ++ lines_from log f (range_with_len i k)) none
    ∙ before
