-- What a written value stands for, by the sort of its place.
use Rattle.std.specs.Prelude.{ℕ, List, Option, [], ◌∷◌, Bool, false, Result, Ok, Err, ◌==◌, if◌then◌else◌}
use Rattle.mfotl_lex.specs.Bytes.{minus}
use Rattle.mfotl_lex.specs.Numbers.{integer_value, is_int64, digits_value, within_limit}
use Rattle.mfotl_model.specs.declared.policy.Sort.{Sort}
use Rattle.mfotl_model.specs.declared.policy.Sort.TheVariants as sorts
use Rattle.mfotl_model.specs.declared.value.Value.{Value}
use Rattle.mfotl_model.specs.declared.value.Value.TheVariants as values
use Rattle.log_reader.specs.declared.fault.LogFault.{LogFault}
use Rattle.log_reader.specs.declared.fault.LogFault.TheVariants.{WrongSort, IntRange}
use Rattle.log_reader.specs.Limits.{last_timestamp}
use Rattle.log_reader.specs.Symbols.{Written, Bare, Quoted, is_digits}

-- an optional `-` and one digit or more
abbrev pub is_number : List ℕ → Bool
is_number [] = false
is_number (b ∷ bytes) = if b == minus then is_digits bytes else is_digits (b ∷ bytes)

-- the integer of 64 bits that a Word stands for, or the fault of one that stands at this offset
unfoldable pub integer_at : ℕ → List ℕ → Result Value LogFault
integer_at at word =
    if is_number word
    then (if is_int64 (integer_value word) then Ok (values.Int (integer_value word)) else Err (IntRange at))
    else Err (WrongSort at)

-- where a string is due, a Word or a Text stands for its bytes
abbrev pub value_at : Sort → ℕ → Written → Result Value LogFault
value_at sorts.Int at (Bare word) = integer_at at word
value_at sorts.Int at (Quoted text) = Err (WrongSort at)
value_at sorts.Text at (Bare word) = Ok (values.Text word)
value_at sorts.Text at (Quoted text) = Ok (values.Text text)

-- the number that digits write, if it is no greater than a timestamp may be
abbrev pub timestamp_of : List ℕ → Option ℕ
timestamp_of digits = within_limit last_timestamp (digits_value 0 digits)
