-- The positions of a log from one on.
use Rattle.std.proofs.Common.{◌≡◌, ℕ, suc, ◌+◌, ◌-◌, ◌<◌, Bool, cond, List, ◌++◌, ap, sym, ◌∙◌, append_assoc, arith}
use Rattle.std.specs.List.{range_with_len}
use Rattle.mfotl_plain.proofs.SettlingLemmas.{range_cons}
use Rattle.mfotl_model.specs.{Counts.passing, Formulas.Form, Violations.viol}
use Rattle.mfotl_model.specs.declared.event.TimePoint.{TimePoint}
use Rattle.definitions_check.specs.Answers.{rows_line, violation_lines}

-- what passes from a position on, by what holds there
pub passing_from : (p : ℕ → Bool) (a n : ℕ) → a < n
    → passing p a (n - a) ≡ cond (p a) (passing p (a + 1) (n - (a + 1)) + 1) 0
passing_from p a n h = let more : n - a ≡ suc (n - (a + 1)) = omega arith in ap (passing p a) more

-- the lines from a position on begin with its own
lines_from : (log : List TimePoint) (f : Form) (a n : ℕ) → a < n
    → violation_lines log f (range_with_len a (n - a))
    ≡ rows_line a (viol log f a) ++ violation_lines log f (range_with_len (a + 1) (n - (a + 1)))
lines_from log f a n h = ap (violation_lines log f) (range_cons a n h)

-- a text that is whole with the lines to come still is, once the first of them is put behind it
pub line_put : (old new whole : List ℕ) (log : List TimePoint) (f : Form) (a n : ℕ) → a < n
    → new ≡ old ++ rows_line a (viol log f a)
    → old ++ violation_lines log f (range_with_len a (n - a)) ≡ whole
    → new ++ violation_lines log f (range_with_len (a + 1) (n - (a + 1))) ≡ whole
line_put old new whole log f a n h put invariant =
    ap (λ t. t ++ violation_lines log f (range_with_len (a + 1) (n - (a + 1)))) put
    ∙ append_assoc old _ _
    ∙ sym (ap (λ t. old ++ t) (lines_from log f a n h))
    ∙ invariant
