-- How far a log was read, and what is due next.
use Rattle.std.specs.Prelude.{ℕ, List, [], ◌∷◌, drop, Bool, false, Result, Ok, Err, if◌then◌else◌}
use Rattle.mfotl_model.specs.declared.event.TimePoint.{TimePoint}
use Rattle.mfotl_sig.specs.Preds.{PredOf}
use Rattle.log_reader.specs.declared.fault.LogFault.{LogFault}
use Rattle.log_reader.specs.declared.limits.Limits.{Limits}
use Rattle.log_reader.specs.declared.next.Next.{Next}
use Rattle.log_reader.specs.declared.next.Next.TheVariants.{Point, More, End}
use Rattle.log_reader.specs.Readings.{Reading, Ending, NoFault, Fault, reading}

-- the log's bytes so far, and what was given of them
pub record Progress : Type 0 where
  pub sig : List PredOf
  pub limits : Limits
  -- the bytes so far, whether any were fed, and whether they are known to be all
  pub bytes : List ℕ
  pub is_fed : Bool
  pub is_ended : Bool
  -- how many time-points were given
  pub given : ℕ
  -- whether memory was wanting
  pub is_broken : Bool

-- nothing was fed
abbrev pub nothing_fed : List PredOf → Limits → Progress
nothing_fed sig limits = record {
  sig = sig;
  limits = limits;
  bytes = [];
  is_fed = false;
  is_ended = false;
  given =
      0;
  is_broken = false;
}

-- the first of these time-points, or else the fault behind them, or that there is none
abbrev pub answer_by : Bool → List TimePoint → Ending → Result Next LogFault
answer_by ended (point ∷ points) ending = Ok (Point point)
answer_by ended [] (Fault fault) = Err fault
answer_by ended [] NoFault = Ok (if ended then End else More)

-- the same of a reading
abbrev pub answer_of : Bool → Reading → Result Next LogFault
answer_of ended r = answer_by ended r.points r.ending

-- what follows the first time-points of a reading
abbrev pub skipped : ℕ → Reading → Reading
skipped n r = record { points = drop n r.points; ending = r.ending }

-- the reading of all bytes so far
abbrev pub read : Progress → Reading
read r = reading r.sig r.limits r.bytes r.is_ended

-- what follows the time-points that were given
abbrev pub next_answer : Progress → Result Next LogFault
next_answer r = answer_of r.is_ended (skipped r.given (read r))
