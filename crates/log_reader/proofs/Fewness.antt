-- A reading has no more time-points than the limit.
use Rattle.std.proofs.Common.{◌≡◌, ℕ, ◌+◌, ◌≤◌, Bool, List, [], ◌∷◌, length, Result, arith}
use Rattle.std.proofs.{lemmas.Bool.cases_Bool, lemmas.List.length-append}
use Rattle.mfotl_lex.specs.Lexemes.{Lexeme}
use Rattle.mfotl_sig.specs.Preds.{PredOf}
use Rattle.log_reader.specs.declared.{fault.LogFault.LogFault, limits.Limits.Limits}
use Rattle.log_reader.specs.Cursors.{open_count, given_of, IsCounted}
use Rattle.log_reader.specs.{Partials.Partial, Soundness.StandsForLog, Soundness.StandsForSomeLog, Steps.step}
use Rattle.log_reader.specs.{Steps.completed, Stretches.Stretch}
use Rattle.log_reader.specs.Readings.{Reading, went_on, run, reading}
use Rattle.log_reader.proofs.StepStages.{step_counts, completes_open, completed_none, completed_one}
use Rattle.log_reader.proofs.ReaderSoundness.{remains_now}

-- no more were begun than the limit
pub record IsFew (limits : Limits) (p : Partial) : Type 0 where
  pub counted : IsCounted p
  pub begun : p.points ≤ limits.points

-- with so many more time-points, no more are given than the limit
abbrev pub Within : Limits → Partial → ℕ → Type 0
Within limits p points = given_of p + points ≤ limits.points

-- a time-point that is begun may be given
one_more : (limits : Limits) (p : Partial) → IsFew limits p → open_count p.stage ≡ 1 → Within limits p 1
one_more limits p f one = omega (arith, one, f.counted, f.begun)

none_more : (limits : Limits) (p : Partial) → IsFew limits p → Within limits p 0
none_more limits p f = omega (arith, f.begun)

-- ---- readings

-- a reading that is within the limit from each place
abbrev pub KeepsWithin : Limits → (Partial → Reading) → Type 0
KeepsWithin limits rest = (p : Partial) → IsFew limits p → Within limits p (length (rest p).points)

module _ (sig : List PredOf) (limits : Limits) where
  completed_within : (p : Partial) (t : Lexeme) → IsFew limits p → Within limits p (length (completed p t))
  completed_within p t f = grind (arith, cases_Bool, completed_one, one_more, completes_open, completed_none, none_more)

  step_few : (rest : Partial → Reading) (p : Partial) (t : Lexeme) → KeepsWithin limits rest → IsFew limits p
      → (r : Result Partial LogFault) → step sig limits p t ≡ r
      → Within limits p (length (completed p t) + length (went_on r rest).points)
  step_few rest p t keeps f r e = grind (arith, step_counts, completed_within)

  run_few : (last : Partial → Reading) → KeepsWithin limits last → (ts : List Lexeme)
      → KeepsWithin limits (λ p. run sig limits last p ts)
  unfolding run
  run_few last ends [] p f = ends p f
  run_few last ends (t ∷ ts) p f = search (length-append, step_few, run_few last ends ts)

pub reading_few : (sig : List PredOf) (limits : Limits) (bytes : List ℕ) (ended : Bool)
    → length (reading sig limits bytes ended).points ≤ limits.points
unfolding reading
reading_few sig limits bytes ended = grind (arith, run_few)

-- no more were given than there are
pub given_few : (sig : List PredOf) (limits : Limits) (is_ended : Bool) (given : ℕ) (s : Stretch) (at : ℕ)
    (p : Partial) (log : List ℕ) → StandsForLog sig limits is_ended given s at p log
    → given ≤ length (reading sig limits log is_ended).points
given_few sig limits is_ended given s at p log st = (remains_now sig limits log is_ended s given at p st).few

-- so no more than the limit
pub sound_few : (sig : List PredOf) (limits : Limits) (is_ended : Bool) (s : Stretch) (at : ℕ) (p : Partial)
    → StandsForSomeLog sig limits is_ended s at p → given_of p ≤ limits.points
sound_few sig limits is_ended s at p sound =
    omega (arith, given_few sig limits is_ended (given_of p) s, reading_few sig limits sound.log is_ended)
