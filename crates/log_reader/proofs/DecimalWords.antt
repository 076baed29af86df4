-- The decimal digits of a number are a word of a log that stands for the number.
use Rattle.std.proofs.Common.{◌≡◌, ℕ, ◌+◌, ◌*◌, ◌<◌, ◌≤◌, ◌^◌, true, false, List, [], ◌∷◌, length, Some, Ok, pos}
use Rattle.std.proofs.Common.{refl, ap, ◌∙◌, arith}
use Rattle.std.proofs.lemmas.Bool.{le-leb, lt-ltb, ne_eqb}
use Rattle.std.proofs.{lemmas.Bool.Decides.nat_tests, lemmas.Fmt.decimal_is_IsNumeral, lemmas.Fmt.length-decimal-le}
use Rattle.std.proofs.{lemmas.Str.Parse.digit_from_value, lemmas.Str.digit_value_digit}
use Rattle.std.specs.{Prelude.◌==◌, Char.is_ascii_digit, Char.digit_value, Fmt.decimal, List.list_all}
use Rattle.std.specs.{Str.Parse.AllDigits, Str.Parse.digits_value_after}
use Rattle.mfotl_lex.specs.{Bytes.in_log_word, Bytes.minus, Numbers.digits_value, Numbers.integer_value}
use Rattle.mfotl_model.specs.declared.value.Value.TheVariants.{Int}
use Rattle.log_reader.specs.Symbols.{is_digits}
use Rattle.log_reader.specs.ValuesRead.{is_number, integer_at, timestamp_of}

-- ---- digits

digit_is : (c : ℕ) → digit_value c < 10 → is_ascii_digit c ≡ true
digit_is c d = let range = digit_from_value c d in grind (arith, nat_tests)

digit_in_word : (c : ℕ) → digit_value c < 10 → in_log_word c ≡ true
digit_in_word c d = let range = digit_from_value c d in grind (arith, nat_tests)

all_are_digits : (ds : List ℕ) → AllDigits 10 ds → list_all is_ascii_digit ds ≡ true
all_are_digits [] d = refl
all_are_digits (c ∷ ds) d = rw (digit_is c d.0, all_are_digits ds d.1) refl

all_in_word : (ds : List ℕ) → AllDigits 10 ds → list_all in_log_word ds ≡ true
all_in_word [] d = refl
all_in_word (c ∷ ds) d = rw (digit_in_word c d.0, all_in_word ds d.1) refl

no_minus : (c : ℕ) → digit_value c < 10 → (c == minus) ≡ false
no_minus c d = let range = digit_from_value c d in ne_eqb c minus (λ e. omega arith)

number_is : (ds : List ℕ) → 0 < length ds → AllDigits 10 ds → is_number ds ≡ true
number_is ds some d = grind (arith, no_minus, all_are_digits)

-- ---- what they write

same_value : (ds : List ℕ) (n : ℕ) → AllDigits 10 ds → digits_value n ds ≡ digits_value_after 10 n ds
unfolding digits_value
same_value [] n d = refl
same_value (c ∷ ds) n d = grind (arith, digit_value_digit, digit_from_value, same_value ds (n * 10 + digit_value c) d.1)

same_integer : (ds : List ℕ) → AllDigits 10 ds → integer_value ds ≡ pos (digits_value 0 ds)
unfolding integer_value digits_value
same_integer ds d = grind arith

module _ (n : ℕ) (small : n < 2 ^ 64) where
  pub decimal_digits : is_digits (decimal n) ≡ true
  decimal_digits = let k = decimal_is_IsNumeral n small in (grind (arith, all_are_digits))

  pub decimal_in_word : list_all in_log_word (decimal n) ≡ true
  decimal_in_word = all_in_word (decimal n) (decimal_is_IsNumeral n small).0.1

  pub decimal_is_number : is_number (decimal n) ≡ true
  decimal_is_number = let k = decimal_is_IsNumeral n small in number_is (decimal n) k.0.0 k.0.1

  decimal_value : digits_value 0 (decimal n) ≡ n
  decimal_value = let k = decimal_is_IsNumeral n small in same_value (decimal n) 0 k.0.1 ∙ k.1

  decimal_integer : integer_value (decimal n) ≡ pos n
  decimal_integer = same_integer (decimal n) (decimal_is_IsNumeral n small).0.1 ∙ ap pos decimal_value

  pub decimal_some : 0 < length (decimal n)
  decimal_some = (decimal_is_IsNumeral n small).0.0

  pub decimal_short : length (decimal n) ≤ 20
  decimal_short = length-decimal-le 20 n (omega arith) (omega (arith, small)) small

-- a timestamp
pub decimal_timestamp : (n : ℕ) → n ≤ 2 ^ 62 → timestamp_of (decimal n) ≡ Some n
decimal_timestamp n small = grind (arith, decimal_value, le-leb)

-- an integer
pub decimal_read : (n at : ℕ) → n < 2 ^ 63 → integer_at at (decimal n) ≡ Ok (Int (pos n))
unfolding integer_at
decimal_read n at small = grind (arith, decimal_is_number, decimal_integer, lt-ltb)
