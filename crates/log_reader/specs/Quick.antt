-- What is read straight from a log's bytes, without a token: numbers of few digits that a byte of no Word ends, marks,
-- and plain Words.
use Rattle.std.specs.Prelude.{◌≡◌, ◌≤◌, ◌<◌, ◌+◌, ◌-◌, ◌*◌, ◌==◌, ◌||◌, ℕ, suc, Bool, true, false, List, [], ◌∷◌}
use Rattle.std.specs.Prelude.{◌++◌, length, nat_lt, Option, Some, None, Result, Ok, Err, ℤ, pos, if◌then◌else◌}
use Rattle.std.specs.Char.{is_ascii_digit}
use Rattle.std.specs.declared.alloc.AllocError.{AllocError}
use Rattle.mfotl_lex.specs.Lexemes.{Lexeme}
use Rattle.mfotl_lex.specs.Limits.{max_log_word}
use Rattle.mfotl_lex.specs.Scans.{log_mark}
use Rattle.mfotl_lex.specs.declared.kind.Kind.{Kind}
use Rattle.mfotl_lex.specs.declared.kind.Kind.TheVariants.{At}
use Rattle.mfotl_model.specs.declared.event.TimePoint.{TimePoint}
use Rattle.mfotl_model.specs.declared.policy.Sort.{Sort}
use Rattle.mfotl_model.specs.declared.policy.Sort.TheVariants.{Int}
use Rattle.mfotl_model.specs.declared.value.Value.TheVariants as values
use Rattle.mfotl_sig.specs.Preds.{PredOf}
use Rattle.log_reader.specs.declared.fault.LogFault.{LogFault}
use Rattle.log_reader.specs.declared.fault.LogFault.TheVariants.{Memory}
use Rattle.log_reader.specs.declared.limits.Limits.{Limits}
use Rattle.log_reader.specs.declared.straight.Straight.{Straight}
use Rattle.log_reader.specs.declared.straight.Straight.TheVariants.{Nothing, Took, Completed}
use Rattle.log_reader.specs.declared.stage.Stage.{Stage}
use Rattle.log_reader.specs.declared.stage.Stage.TheVariants.{AfterOpen, AfterValue, AfterComma}
use Rattle.log_reader.specs.Given.{StateMoves, Stays}
use Rattle.log_reader.specs.Partials.{Partial, point_of, finished}
use Rattle.log_reader.specs.Stages.{completes}
use Rattle.log_reader.specs.Steps.{step}
use Rattle.log_reader.specs.Symbols.{symbol}
use Rattle.log_reader.specs.Tokens.{IsInFront}

-- ---- numbers

-- a number and the byte behind it stand in so many bytes
abbrev pub most_digits : ℕ
most_digits = 18

-- a number below this has room for one more digit
abbrev pub room : ℕ
room = 100000000000000000

-- a `,`, a `)`, a blank or a line feed
abbrev pub ends_number : ℕ → Bool
ends_number b = ((b == 44 || b == 41) || b == 32) || b == 10

-- the number that the digits in front of such a byte write behind `count` digits of `number`, and how many
-- digits these are then; none where it is wide, or where something else stands
unfoldable pub digits_before : ℕ → ℕ → List ℕ → Option (ℕ × ℕ)
digits_before number count [] = None
digits_before number count (b ∷ bytes) =
    if is_ascii_digit b
    then (if nat_lt number room then digits_before (10 * number + (b - 48)) (suc count) bytes else None)
    else if ends_number b then Some (number, count) else None

-- the bytes begin with a number of n digits
pub record BeginsWithNumber (bytes : List ℕ) (number n : ℕ) : Type 0 where
  pub found : digits_before 0 0 bytes ≡ Some (number, n)
  pub some : 0 < n
  pub few : n ≤ max_log_word

-- the bytes begin with an integer of n digits
pub record IsInteger (bytes : List ℕ) (value : ℤ) (n : ℕ) : Type 0 where
  pub number : ℕ
  pub digits : BeginsWithNumber bytes number n
  pub is : value ≡ pos number

-- a value may stand there
abbrev pub is_value_due : Stage → Bool
is_value_due AfterOpen = true
is_value_due AfterComma = true
is_value_due _ = false

-- it was taken as the next value of the group
pub record TakesValue (p : Partial) (bytes : List ℕ) (n : ℕ) (q : Partial) : Type 0 where
  pub value : ℤ
  pub integer : IsInteger bytes value n
  pub due : List Sort
  pub sorts : p.due ≡ Int ∷ due
  pub after : q ≡ record p { stage = AfterValue; due = due; args = p.args ++ values.Int value ∷ [] }

-- or nothing was
abbrev pub TakesInteger : Partial → List ℕ → Result Straight AllocError → Partial → Type 0
TakesInteger p bytes (Ok Nothing) q = q ≡ p
TakesInteger p bytes (Ok (Took n)) q = TakesValue p bytes n q
TakesInteger p bytes (Ok (Completed point)) q = ⊥
TakesInteger p bytes (Err error) q = Unit {0}

-- ---- marks

-- the token that a mark at this offset is
abbrev pub mark_token : Kind → ℕ → ℕ → Lexeme
mark_token kind at b = record { kind = kind; at = at; text = b ∷ [] }

-- a mark at this offset was taken within the present time-point, or shows a fault: as its token would be
pub record StepsMark {U : Type 0} (limits : Limits) (p : Partial) (at b : ℕ) (result : Result U LogFault)
    (q : Partial) : Type 0 where
  pub kind : Kind
  pub is : log_mark b ≡ Some kind
  pub goes_on : completes p.stage (symbol (mark_token kind at b)) ≡ false
  pub moves : (sig : List PredOf) → StateMoves p q result (step sig limits p (mark_token kind at b))

-- or nothing was
abbrev pub TakesMark : {U : Type 0} → Limits → Partial → ℕ → ℕ → Option (Result U LogFault) → Partial → Type 0
TakesMark limits p at b (Some result) q = StepsMark limits p at b result q
TakesMark limits p at b None q = q ≡ p

-- ---- the token at the front of bytes, the first of which has the offset `at`

-- it was taken, and n bytes with it
pub record TakesTokenInFront (sig : List PredOf) (limits : Limits) (p : Partial) (at : ℕ) (bytes : List ℕ) (n : ℕ)
    (q : Partial) : Type 0 where
  pub token : Lexeme
  pub front : IsInFront bytes at token
  pub end : token.at + length token.text ≡ at + n
  pub goes_on : completes p.stage (symbol token) ≡ false
  pub steps : step sig limits p token ≡ Ok q

-- it is an `@` that completes the present time-point
pub record CompletesFront (p : Partial) (at : ℕ) (bytes : List ℕ) (point : TimePoint) (q : Partial) : Type 0 where
  pub token : Lexeme
  pub front : IsInFront bytes at token
  pub kind : token.kind ≡ At
  pub whole : completes p.stage (symbol token) ≡ true
  pub is : point ≡ point_of p
  pub after : q ≡ finished p

-- it shows a fault
pub record HaltsFront (sig : List PredOf) (limits : Limits) (p : Partial) (at : ℕ) (bytes : List ℕ)
    (fault : LogFault) (q : Partial) : Type 0 where
  pub token : Lexeme
  pub front : IsInFront bytes at token
  pub goes_on : completes p.stage (symbol token) ≡ false
  pub stays : Stays p q fault (step sig limits p token)

-- the same of a fault that isn't want of memory, of which nothing is said
abbrev pub HaltsFrontBy : List PredOf → Limits → Partial → ℕ → List ℕ → LogFault → Partial → Type 0
HaltsFrontBy sig limits p at bytes Memory q = Unit {0}
HaltsFrontBy sig limits p at bytes fault q = HaltsFront sig limits p at bytes fault q

-- one of these, or nothing
abbrev pub TakesStraight : List PredOf → Limits → Partial → ℕ → List ℕ → Result Straight LogFault → Partial → Type 0
TakesStraight sig limits p at bytes (Ok Nothing) q = q ≡ p
TakesStraight sig limits p at bytes (Ok (Took n)) q = TakesTokenInFront sig limits p at bytes n q
TakesStraight sig limits p at bytes (Ok (Completed point)) q = CompletesFront p at bytes point q
TakesStraight sig limits p at bytes (Err fault) q = HaltsFrontBy sig limits p at bytes fault q

-- the same whatever the limits
abbrev pub TakesWord : List PredOf → Partial → ℕ → List ℕ → Result Straight LogFault → Partial → Type 0
TakesWord sig p at bytes result q = (limits : Limits) → TakesStraight sig limits p at bytes result q

-- a timestamp of n bytes was taken, whatever the signature and the limits, or nothing was
abbrev pub TakesStamp : Partial → ℕ → List ℕ → Option ℕ → Partial → Type 0
TakesStamp p at bytes (Some n) q = (sig : List PredOf) (limits : Limits) → TakesTokenInFront sig limits p at bytes n q
TakesStamp p at bytes None q = q ≡ p
