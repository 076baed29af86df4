-- A reader as its callers see it, and the progress that it may stand for.
use Rattle.std.specs.Prelude.{◌≡◌, ℕ, ◌+◌, List, length, Bool, true, Result, Ok, Err}
use Rattle.mfotl_sig.specs.Preds.{PredOf}
use Rattle.log_reader.specs.declared.fault.LogFault.{LogFault}
use Rattle.log_reader.specs.declared.fault.LogFault.TheVariants.{Memory}
use Rattle.log_reader.specs.declared.limits.Limits.{Limits}
use Rattle.log_reader.specs.declared.next.Next.{Next}
use Rattle.log_reader.specs.declared.next.Next.TheVariants.{Point}
use Rattle.log_reader.specs.Partials.{Partial}
use Rattle.log_reader.specs.Progress.{Progress}
use Rattle.log_reader.specs.Soundness.{StandsForLog}
use Rattle.log_reader.specs.Stretches.{Stretch}

-- what a reader keeps for itself: `Reads` alone says what of
pub record Kept : Type 0 where
  -- the bytes that it isn't done with, and how far it read them
  pub stretch : Stretch
  pub at : ℕ
  pub partial : Partial

-- what a reader is to its callers, and what it keeps
pub record Reader : Type 0 where
  pub sig : List PredOf
  pub limits : Limits
  -- whether bytes were fed, and whether they are known to be all
  pub is_fed : Bool
  pub is_ended : Bool
  -- how many time-points were given
  pub given : ℕ
  -- whether memory was wanting
  pub is_broken : Bool
  pub kept : Kept

-- what the reader keeps may be of a log whose bytes so far are these
unfoldable pub Reads : Reader → List ℕ → Type 0
Reads r bytes = StandsForLog r.sig r.limits r.is_ended r.given r.kept.stretch r.kept.at r.kept.partial bytes

-- how many bytes it holds
abbrev pub held_bytes : Reader → ℕ
held_bytes r = length r.kept.stretch.bytes

-- whatever bytes the reader may have been fed
abbrev pub ForEach : Reader → (List ℕ → Type 0) → Type 0
ForEach r P = (bytes : List ℕ) → Reads r bytes → P bytes

-- how far it has read them
abbrev pub progress : Reader → List ℕ → Progress
progress r bytes = record {
  sig = r.sig;
  limits = r.limits;
  bytes = bytes;
  is_fed = r.is_fed;
  is_ended = r.is_ended;
  given = r.given;
  is_broken = r.is_broken;
}

-- a time-point that was given counts; an answer without one changes nothing that a caller sees
abbrev pub Proceeds : Reader → Reader → Result Next LogFault → Type 0
Proceeds old new (Ok (Point point)) = new ≡ record old { given = old.given + 1; kept = new.kept }
Proceeds old new (Ok next) = new ≡ record old { kept = new.kept }
Proceeds old new (Err Memory) = new.is_broken ≡ true
Proceeds old new (Err fault) = new ≡ record old { kept = new.kept }

-- it reads the bytes that it read before, unless memory was wanting
abbrev pub ReadsSameBytes : Reader → Reader → Result Next LogFault → Type 0
ReadsSameBytes old new (Err Memory) = Unit {0}
ReadsSameBytes old new answer = ForEach old (Reads new)
