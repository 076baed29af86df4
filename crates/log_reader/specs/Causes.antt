-- What shows each fault of a log, in the grammar's own words.
use Rattle.std.specs.Prelude.{◌≡◌, ◌≢◌, ◌<◌, ◌≤◌, ◌⊎◌, List, [], ◌∷◌, ◌++◌, true, false, Some, None}
use Rattle.mfotl_lex.specs.FirstFault.{Tail, Broken, EndsViability, EndsTooEarly}
use Rattle.mfotl_lex.specs.Lexemes.{Lexeme}
use Rattle.mfotl_lex.specs.Numbers.{integer_value, is_int64}
use Rattle.mfotl_model.specs.declared.policy.Sort.{Sort}
use Rattle.mfotl_model.specs.declared.policy.Sort.TheVariants.{Int}
use Rattle.mfotl_sig.specs.Preds.{PredOf, named}
use Rattle.log_reader.specs.declared.fault.LogFault.{LogFault}
use Rattle.log_reader.specs.declared.fault.LogFault.TheVariants.{Syntax, UnknownPredicate, WrongArity, WrongSort}
use Rattle.log_reader.specs.declared.fault.LogFault.TheVariants.{IntRange, TimestampRange, FallingTime, TooManyEvents}
use Rattle.log_reader.specs.declared.fault.LogFault.TheVariants.{TooManyPoints}
use Rattle.log_reader.specs.declared.limits.Limits.{Limits}
use Rattle.log_reader.specs.Fronts.{Role, PointBegins, Timestamp, Name, GroupBegins, Value, GroupEnds, symbols_before}
use Rattle.log_reader.specs.Fronts.{role}
use Rattle.log_reader.specs.Fronts.{points_begun, last_time, groups_begun, due_sorts}
use Rattle.log_reader.specs.Grammar.{IsAccepted, IsViable}
use Rattle.log_reader.specs.Symbols.{Written, Bare, Quoted, symbol, token_content, written}
use Rattle.log_reader.specs.ValuesRead.{is_number, timestamp_of}

-- what is written is no integer
abbrev pub IsNoInteger : Written → Type 0
IsNoInteger (Bare word) = is_number word ≡ false
IsNoInteger (Quoted text) = Unit {0}

-- what is written is an integer of more than 64 bits
abbrev pub IsWide : Written → Type 0
IsWide (Bare word) = (is_number word ≡ true) × (is_int64 (integer_value word) ≡ false)
IsWide (Quoted text) = ⊥

-- the grammar goes on with the token behind the front, where it has this role
abbrev pub Plays : Role → List Lexeme → Lexeme → Type 0
Plays part front t = IsViable (front ++ t ∷ []) × (role (symbols_before front) (symbol t) ≡ part)

-- the next value of the group is to be an integer
abbrev pub IsIntegerDue : List PredOf → List Lexeme → Type 0
IsIntegerDue sig front = (more : List Sort) × (due_sorts sig (symbols_before front) ≡ Int ∷ more)

-- the token shows the fault, behind the front
abbrev pub IsCause : List PredOf → Limits → List Lexeme → Lexeme → LogFault → Type 0
-- the grammar doesn't go on with it
IsCause sig limits front t (Syntax at) = EndsViability IsViable (λ (t : Lexeme). t.at) front t at
-- a predicate's name that the signature lacks
IsCause sig limits front t (UnknownPredicate at) =
    (at ≡ t.at) × Plays Name front t × (named (token_content t) sig ≡ None)
-- a value where the group has all, or a `)` where it lacks one
IsCause sig limits front t (WrongArity at) =
    (at ≡ t.at)
    × ((Plays Value front t × (due_sorts sig (symbols_before front) ≡ []))
    ⊎ (Plays GroupEnds front t × (due_sorts sig (symbols_before front) ≢ [])))
IsCause sig limits front t (WrongSort at) =
    (at ≡ t.at) × Plays Value front t × IsIntegerDue sig front × IsNoInteger (written t)
IsCause sig limits front t (IntRange at) =
    (at ≡ t.at) × Plays Value front t × IsIntegerDue sig front × IsWide (written t)
IsCause sig limits front t (TimestampRange at) =
    (at ≡ t.at) × Plays Timestamp front t × (timestamp_of (token_content t) ≡ None)
-- a timestamp below the last one
IsCause sig limits front t (FallingTime earlier now at) =
    (at ≡ t.at) × Plays Timestamp front t × (timestamp_of (token_content t) ≡ Some now)
    × (earlier ≡ last_time (symbols_before front)) × (now < earlier)
-- the `(` of a group, of which the time-point has all that it may have
IsCause sig limits front t (TooManyEvents at) =
    (at ≡ t.at) × Plays GroupBegins front t × (limits.events ≤ groups_begun (symbols_before front))
-- the `@` of a time-point, where as many were begun as may be
IsCause sig limits front t (TooManyPoints at) =
    (at ≡ t.at) × Plays PointBegins front t × (limits.points ≤ points_begun (symbols_before front))
IsCause sig limits front t _ = ⊥

-- what stands behind all whole tokens shows the fault: bytes that are no token, a byte at the limit, or the
-- end of tokens that the grammar doesn't accept
abbrev pub IsLast : List Lexeme → Tail LogFault → LogFault → Type 0
IsLast ts (Broken shown) fault = fault ≡ shown
IsLast ts tail (Syntax at) = EndsTooEarly IsAccepted ts tail at
IsLast ts tail fault = ⊥
