-- Logs and what is read of them, worked out by hand.
use Rattle.std.specs.Prelude.{◌≡◌, ℕ, List, [], ◌∷◌, ◌++◌, codes, pos, negsuc, Ok, Err}
use Rattle.std.specs.List.{flat_map}
use Rattle.mfotl_lex.specs.declared.kind.Kind.TheVariants as kinds
use Rattle.mfotl_lex.specs.declared.fault.LexFaultKind.TheVariants.{BadByte, OpenText}
use Rattle.mfotl_model.specs.declared.event.Event.{Event}
use Rattle.mfotl_model.specs.declared.event.TimePoint.{TimePoint}
use Rattle.mfotl_model.specs.declared.policy.Sort.TheVariants as sorts
use Rattle.mfotl_model.specs.declared.value.Value.TheVariants.{Int, Text}
use Rattle.mfotl_sig.specs.Preds.{PredOf}
use Rattle.log_reader.specs.declared.fault.LogFault.{LogFault}
use Rattle.log_reader.specs.declared.fault.LogFault.TheVariants.{Lex, Syntax, UnknownPredicate, WrongArity, WrongSort}
use Rattle.log_reader.specs.declared.fault.LogFault.TheVariants.{IntRange, TimestampRange, FallingTime, TooManyEvents}
use Rattle.log_reader.specs.declared.fault.LogFault.TheVariants.{TooManyPoints, TooLong}
use Rattle.log_reader.specs.declared.limits.Limits.{Limits}
use Rattle.log_reader.specs.DemoDraws.{draw, moved_on}
use Rattle.log_reader.specs.DemoEvents.{moments, line_of}
use Rattle.log_reader.specs.FaultTexts.{fault_text}
use Rattle.log_reader.specs.Symbols.{Says, Quoted, symbol_of}
use Rattle.log_reader.specs.ValuesRead.{value_at}
use Rattle.log_reader.specs.Readings.{Reading, NoFault, Fault, accepted, shown}

-- `publish(int) approve(int) note(string,int)`
abbrev pub preds : List PredOf
preds =
    record { number = 0; name = codes "publish"; sorts = sorts.Int ∷ [] }
    ∷ record { number = 1; name = codes "approve"; sorts = sorts.Int ∷ [] }
    ∷ record { number = 2; name = codes "note"; sorts = sorts.Text ∷ sorts.Int ∷ [] } ∷ []

-- the limits of bytes, time-points and groups
abbrev pub limited_to : ℕ → ℕ → ℕ → Limits
limited_to bytes points events = record { bytes = bytes; points = points; events = events }

-- a log that is all there is, within wide limits
abbrev pub read : List ℕ → Reading
read text = accepted preds (limited_to 99 9 9) text

-- the event `publish(n)`
abbrev pub publish : ℕ → Event
publish n = record { pred = 0; args = Int (pos n) ∷ [] }

-- a time-point
abbrev pub at : ℕ → List Event → TimePoint
at ts events = record { ts = ts; db = events }

-- these time-points and no fault
abbrev pub whole : List TimePoint → Reading
whole points = record { points = points; ending = NoFault }

-- these time-points, and then a fault
abbrev pub stops : List TimePoint → LogFault → Reading
stops points fault = record { points = points; ending = Fault fault }

-- what is read to its end
pub record WorkedValues : Type 0 where
  pub empty : read [] ≡ whole []
  pub two : read (codes "@1 publish(60); @2;") ≡ whole (at 1 (publish 60 ∷ []) ∷ at 2 [] ∷ [])
  pub unclosed : read (codes "@1 @1 publish(7)") ≡ whole (at 1 [] ∷ at 1 (publish 7 ∷ []) ∷ [])
  pub equal_events_are_one : read (codes "@07 publish(-0)(007)(0)") ≡ whole (at 7 (publish 0 ∷ publish 7 ∷ []) ∷ [])
  pub word_as_text : read (codes "@1 note(7,7)")
      ≡ whole (at 1 (record { pred = 2; args = Text (codes "7") ∷ Int (pos 7) ∷ [] } ∷ []) ∷ [])
  pub text_is_quoted : symbol_of kinds.Text (codes "7") ≡ Says (Quoted (codes "7"))
  pub least : read (codes "@1 publish(-9223372036854775808)")
      ≡ whole (at 1 (record { pred = 0; args = Int (negsuc 9223372036854775807) ∷ [] } ∷ []) ∷ [])
  pub quoted_text : value_at sorts.Text 5 (Quoted (codes "a b")) ≡ Ok (Text (codes "a b"))
  pub last_time : read (codes "@4611686018427387904") ≡ whole (at 4611686018427387904 [] ∷ [])
  pub full : accepted preds (limited_to 9 3 0) (codes "@1;@2;@3;") ≡ whole (at 1 [] ∷ at 2 [] ∷ at 3 [] ∷ [])
  pub full_point : accepted preds (limited_to 99 9 2) (codes "@1 publish(1)(1)") ≡ whole (at 1 (publish 1 ∷ []) ∷ [])

-- what isn't: each fault at its offset, behind the time-points that were completed
pub record WorkedFaults : Type 0 where
  pub lexical : read (codes "@1 \"abc") ≡ stops [] (Lex (record { kind = OpenText; at = 3 }))
  pub lexical_behind : read (codes "@1; $") ≡ stops (at 1 [] ∷ []) (Lex (record { kind = BadByte; at = 4 }))
  pub early_end : read (codes "@1 publish(7) @2 publish(8") ≡ stops (at 1 (publish 7 ∷ []) ∷ []) (Syntax 26)
  pub two_ends : read (codes "@1 ; ;") ≡ stops (at 1 [] ∷ []) (Syntax 5)
  pub no_digits : read (codes "@1 @2a") ≡ stops (at 1 [] ∷ []) (Syntax 4)
  pub not_completed : read (codes "@1 publish(1) ,") ≡ stops [] (Syntax 14)
  pub unknown : read (codes "@1 nope(1)") ≡ stops [] (UnknownPredicate 3)
  pub unknown_by_the_name : read (codes "@1 zz $") ≡ stops [] (UnknownPredicate 3)
  pub value_too_many : read (codes "@1 publish(1,2 $") ≡ stops [] (WrongArity 13)
  pub value_too_few : read (codes "@1 publish()") ≡ stops [] (WrongArity 11)
  pub arity_before_sort : read (codes "@1 publish(1,a)") ≡ stops [] (WrongArity 13)
  pub text_for_integer : value_at sorts.Int 5 (Quoted (codes "7")) ≡ Err (WrongSort 5)
  pub word_for_integer : read (codes "@1 note(a,b)") ≡ stops [] (WrongSort 10)
  pub sign_alone : read (codes "@1 publish(-)") ≡ stops [] (WrongSort 11)
  pub letter_behind : read (codes "@1 publish(1a)") ≡ stops [] (WrongSort 11)
  pub wide_below : read (codes "@1 publish(-9223372036854775809)") ≡ stops [] (IntRange 11)
  pub wide : read (codes "@1 publish(9223372036854775808)") ≡ stops [] (IntRange 11)
  pub late : read (codes "@4611686018427387905") ≡ stops [] (TimestampRange 1)
  pub falling : read (codes "@9 publish(1) @5 publish(2)") ≡ stops (at 9 (publish 1 ∷ []) ∷ []) (FallingTime 9 5 15)
  pub groups : accepted preds (limited_to 99 9 2) (codes "@1 publish(1)(1) publish(1)") ≡ stops [] (TooManyEvents 24)
  pub points : accepted preds (limited_to 99 2 9) (codes "@1;@2@3;") ≡ stops (at 1 [] ∷ at 2 [] ∷ []) (TooManyPoints 5)
  pub long : accepted preds (limited_to 8 9 9) (codes "@1;@2;@3;") ≡ stops (at 1 [] ∷ at 2 [] ∷ []) (TooLong 8)

-- what is shown of a log whose end wasn't told
pub record WorkedFronts : Type 0 where
  pub next_begun : shown preds (limited_to 99 9 9) (codes "@1 publish(7) @") ≡ whole (at 1 (publish 7 ∷ []) ∷ [])
  pub not_yet : shown preds (limited_to 99 9 9) (codes "@1 publish(7)") ≡ whole []
  pub fault : shown preds (limited_to 99 9 9) (codes "@1; publish(") ≡ stops (at 1 [] ∷ []) (Syntax 4)

-- how faults are printed
pub record WorkedPrints : Type 0 where
  pub lexical : fault_text (Lex (record { kind = BadByte; at = 4 })) ≡ codes "Lex BadByte at 4"
  pub syntax : fault_text (Syntax 26) ≡ codes "Syntax at 26"
  pub unknown : fault_text (UnknownPredicate 3) ≡ codes "UnknownPredicate at 3"
  pub arity : fault_text (WrongArity 13) ≡ codes "WrongArity at 13"
  pub sort : fault_text (WrongSort 11) ≡ codes "WrongSort at 11"
  pub wide : fault_text (IntRange 11) ≡ codes "IntRange at 11"
  pub late : fault_text (TimestampRange 1) ≡ codes "TimestampRange at 1"
  pub falling : fault_text (FallingTime 9 5 15) ≡ codes "FallingTime 9 5 at 15"
  pub groups : fault_text (TooManyEvents 24) ≡ codes "TooManyEvents at 24"
  pub points : fault_text (TooManyPoints 5) ≡ codes "TooManyPoints at 5"
  pub long : fault_text (TooLong 8) ≡ codes "TooLong at 8"

-- the first lines of the demo's log
abbrev pub first_lines : ℕ → ℕ → List ℕ
first_lines count seed = flat_map line_of (moments count 0 seed)

-- for two seeds, worked out beside the definitions
pub record WorkedDemo : Type 0 where
  pub first_draw : draw 0 ≡ 167951807
  pub second_draw : draw (moved_on 0) ≡ 218396424
  pub seed_0 : first_lines 3 0 ≡ codes "@3;\n@4 grant(91) req(75,eve) req(3,cat) grant(45);\n@4;\n"
  pub seed_42 : first_lines 4 42
      ≡ codes "@2 req(3,eve) grant(69);\n@4 grant(4) grant(82);\n@6 grant(10) req(69,eve) req(8,eve) drop(60);\n"
      ++ codes "@7 grant(52) grant(74) req(48,dan) req(12,dan);\n"
