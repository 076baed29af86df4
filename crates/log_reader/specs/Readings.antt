-- What a log's bytes say: its time-points up to the first fault, and that fault or the end.
use Rattle.std.specs.Prelude.{ℕ, List, [], ◌∷◌, ◌++◌, length, Bool, true, false, Option, Some, None, Result, Ok, Err}
use Rattle.std.specs.Prelude.{nat_lt, if◌then◌else◌}
use Rattle.mfotl_lex.specs.Lexemes.{Lexeme, tokens}
use Rattle.mfotl_lex.specs.Places.{Place}
use Rattle.mfotl_lex.specs.declared.fault.LexFault.{LexFault}
use Rattle.mfotl_model.specs.declared.event.TimePoint.{TimePoint}
use Rattle.mfotl_sig.specs.Preds.{PredOf}
use Rattle.log_reader.specs.declared.fault.LogFault.{LogFault}
use Rattle.log_reader.specs.declared.fault.LogFault.TheVariants.{Lex, Syntax, TooLong}
use Rattle.log_reader.specs.declared.limits.Limits.{Limits}
use Rattle.log_reader.specs.declared.stage.Stage.{Stage}
use Rattle.log_reader.specs.declared.stage.Stage.TheVariants.{Between}
pub use Rattle.log_reader.specs.LogTexts.{is_long, place_at}
use Rattle.log_reader.specs.Partials.{Partial, nothing_read, point_of}
use Rattle.log_reader.specs.Stages.{is_whole}
use Rattle.log_reader.specs.Steps.{step, completed}

-- no fault is shown, or the first one is this
pub data Ending : Type 0 where
  NoFault : Ending
  Fault : LogFault → Ending

-- time-points in order, and what comes behind them
pub record Reading : Type 0 where
  pub points : List TimePoint
  pub ending : Ending

-- nothing but a fault
abbrev pub fault_only : LogFault → Reading
fault_only fault = record { points = []; ending = Fault fault }

-- a reading behind these time-points
abbrev pub behind : List TimePoint → Reading → Reading
behind points r = record { points = points ++ r.points; ending = r.ending }

-- what follows a step
abbrev pub went_on : Result Partial LogFault → (Partial → Reading) → Reading
went_on (Ok p) more = more p
went_on (Err fault) more = fault_only fault

-- tokens from p on, where `last` says what is shown behind them
unfoldable pub run : List PredOf → Limits → (Partial → Reading) → Partial → List Lexeme → Reading
run sig limits last p [] = last p
run sig limits last p (t ∷ ts) =
    behind (completed p t) (went_on (step sig limits p t) (λ q. run sig limits last q ts))

-- the end of all the bytes, `len` of them
abbrev pub finish_at : ℕ → Partial → Stage → Reading
finish_at len p Between = record { points = []; ending = NoFault }
finish_at len p stage =
    if is_whole stage then record { points = point_of p ∷ []; ending = NoFault } else fault_only (Syntax len)

-- what is shown where no whole token is left of `len` bytes: a byte at the limit, the end if it was told, or
-- nothing
abbrev pub nothing_behind : Limits → ℕ → Bool → Partial → Reading
nothing_behind limits len ended p =
    if nat_lt limits.bytes len then fault_only (TooLong limits.bytes)
    else if ended then finish_at len p p.stage
    else record { points = []; ending = NoFault }

-- the same of these bytes
abbrev pub nothing_left : Limits → List ℕ → Bool → Partial → Reading
nothing_left limits bytes ended p = nothing_behind limits (length bytes) ended p

-- a lexical fault comes behind the whole tokens before it
abbrev pub behind_tokens : Option LexFault → (Partial → Reading) → Partial → Reading
behind_tokens (Some fault) last p = fault_only (Lex fault)
behind_tokens None last p = last p

-- the tokens from a place on
abbrev pub run_from : List PredOf → Limits → (Partial → Reading) → Partial → Place → Reading
run_from sig limits last p place =
    run sig limits (behind_tokens (tokens place).fault last) p (tokens place).list

-- all bytes; `ended` says that no more come
unfoldable pub reading : List PredOf → Limits → List ℕ → Bool → Reading
reading sig limits bytes ended =
    run_from sig limits (nothing_left limits bytes ended) nothing_read (place_at limits bytes ended 0)

-- the time-points completed before the first fault, and that fault or the end
abbrev pub accepted : List PredOf → Limits → List ℕ → Reading
accepted sig limits bytes = reading sig limits bytes true

-- the same of bytes whose end wasn't told: only whole tokens, a lexical fault and a byte at the
-- limit count
abbrev pub shown : List PredOf → Limits → List ℕ → Reading
shown sig limits bytes = reading sig limits bytes false
