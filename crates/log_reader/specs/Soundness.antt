-- What a reader keeps true of the bytes, the offset and what was read before it.
use Rattle.std.specs.Prelude.{◌≡◌, ◌≤◌, ◌+◌, ℕ, List, [], ◌++◌, length, Bool, true, false, Result, Ok, Err}
use Rattle.mfotl_lex.specs.Places.{Place}
use Rattle.mfotl_sig.specs.Preds.{PredOf}
use Rattle.log_reader.specs.declared.fault.LogFault.{LogFault}
use Rattle.log_reader.specs.declared.fault.LogFault.TheVariants.{Memory}
use Rattle.log_reader.specs.declared.limits.Limits.{Limits}
use Rattle.log_reader.specs.declared.next.Next.{Next}
use Rattle.log_reader.specs.declared.next.Next.TheVariants.{Point, More}
use Rattle.log_reader.specs.Cursors.{MayComeLater, IsCounted, given_of}
use Rattle.log_reader.specs.Given.{Gives}
use Rattle.log_reader.specs.Partials.{Partial}
use Rattle.log_reader.specs.Progress.{answer_of, skipped}
use Rattle.log_reader.specs.Readings.{reading, run_from, nothing_left}
use Rattle.log_reader.specs.Stretches.{Stretch, stretch_end, with_piece, looked_at, stretch_place}

-- what remains from a place on computes the rest of the reading
pub record Remains (sig : List PredOf) (limits : Limits) (log : List ℕ) (ended : Bool)
    (given : ℕ) (p : Partial) (place : Place) : Type 0 where
  pub rest : skipped given (reading sig limits log ended)
      ≡ run_from sig limits (nothing_left limits log ended) p place
  pub few : given ≤ length (reading sig limits log ended).points

-- what is kept may be of this log: what remains is the rest of its reading, whatever comes later
pub record StandsForLog (sig : List PredOf) (limits : Limits) (is_ended : Bool) (given : ℕ)
    (s : Stretch) (at : ℕ) (p : Partial) (log : List ℕ) : Type 0 where
  pub len : length log ≡ stretch_end s
  pub remains : (more : List ℕ) (later : Bool) → MayComeLater is_ended more later
      → Remains sig limits (log ++ more) later given p (stretch_place limits (with_piece s more) later at)

-- the offset is within the bytes that are looked at, and a time-point that is begun counts
pub record IsInStretch (limits : Limits) (s : Stretch) (at : ℕ) (p : Partial) : Type 0 where
  pub within : at ≤ length (looked_at limits s)
  pub counted : IsCounted p

-- and what is kept is of some log
pub record StandsForSomeLog (sig : List PredOf) (limits : Limits) (is_ended : Bool)
    (s : Stretch) (at : ℕ) (p : Partial) : Type 0 where
  pub inside : IsInStretch limits s at p
  pub log : List ℕ
  pub stands : StandsForLog sig limits is_ended (given_of p) s at p log

-- what a reader keeps true: nothing is known of it where memory was wanting
pub record IsSoundUnlessBroken (sig : List PredOf) (limits : Limits) (is_fed is_ended is_broken : Bool)
    (s : Stretch) (at : ℕ) (p : Partial) : Type 0 where
  pub unfed : is_fed ≡ false → s ≡ record { from = 0; bytes = [] }
  pub sound : is_broken ≡ false → StandsForSomeLog sig limits is_ended s at p

-- ---- an answer

-- it is due, of whichever log the bytes are
abbrev pub AnswersDue : List PredOf → Limits → Bool → Stretch → ℕ → Partial → Result Next LogFault → Type 0
AnswersDue sig limits is_ended s at p result =
    (log : List ℕ) → StandsForLog sig limits is_ended (given_of p) s at p log
    → Gives (λ next. next) result (answer_of is_ended (skipped (given_of p) (reading sig limits log is_ended)))

-- behind it the bytes are of the same logs
abbrev pub StandsOn : List PredOf → Limits → Bool → Stretch → ℕ → Partial → ℕ → Partial → Type 0
StandsOn sig limits is_ended s at p at' q =
    (log : List ℕ) → StandsForLog sig limits is_ended (given_of p) s at p log
    → StandsForLog sig limits is_ended (given_of q) s at' q log

-- memory was wanting
abbrev pub is_wanting : Result Next LogFault → Bool
is_wanting (Err Memory) = true
is_wanting _ = false

-- more bytes are asked for
abbrev pub is_more : Result Next LogFault → Bool
is_more (Ok More) = true
is_more _ = false

-- how many time-points were given, before and behind an answer
abbrev pub CountsOn : ℕ → Result Next LogFault → ℕ → Type 0
CountsOn old (Ok (Point point)) new = new ≡ old + 1
CountsOn old (Err Memory) new = Unit {0}
CountsOn old answer new = new ≡ old
