-- A number that is read straight from the bytes is what the token there stands for.
use native.Mathlib.Nat.{pow-succ', pow-le-pow_right}
use Rattle.std.proofs.Common.{◌≡◌, ℕ, suc, ◌+◌, ◌-◌, ◌*◌, ◌^◌, ◌≤◌, ◌<◌, true, false, List, [], ◌∷◌, ◌++◌, length}
use Rattle.std.proofs.Common.{get_or, drop-cons, take, drop, zero, Result, Option, Some, None, Ok, ℤ, nat_lt, refl, sym}
use Rattle.std.proofs.Common.{ap, ◌∙◌, inl, inr, arith}
use Rattle.std.specs.Prelude.{◌==◌, nat_le, unwrap_or}
use Rattle.std.specs.{Char.is_ascii_digit, List.list_all, List.prefix_len}
use Rattle.std.proofs.lemmas.Bool.{cases_Bool, leb-true, ltb-true, lt-ltb, le-ltb, le-leb, and_parts, and_from, ne_eqb}
use Rattle.std.proofs.{lemmas.Bool.Decides.nat_tests, lemmas.List.length-take}
use Rattle.mfotl_lex.specs.{Bytes.minus, Bytes.in_log_word, Lexemes.Lexeme, Limits.max_magnitude, Numbers.digits_value}
use Rattle.mfotl_lex.specs.{Numbers.integer_value, FirstFault.◌>>=◌}
use Rattle.mfotl_lex.specs.declared.kind.Kind.TheVariants.{Word}
use Rattle.mfotl_model.specs.declared.{policy.Sort.Sort, policy.Sort.TheVariants.Int, value.Value.Value}
use Rattle.mfotl_model.specs.declared.value.Value.TheVariants as values
use Rattle.mfotl_sig.specs.Preds.{PredOf}
use Rattle.log_reader.specs.declared.{fault.LogFault.LogFault, limits.Limits.Limits, stage.Stage.Stage}
use Rattle.log_reader.specs.declared.{straight.Straight.Straight}
use Rattle.log_reader.specs.declared.stage.Stage.TheVariants.{AfterAt, AfterStamp, AfterOpen, AfterValue, AfterComma}
use Rattle.log_reader.specs.{Limits.last_timestamp, Partials.Partial, Stages.stage_after, Stages.completes}
use Rattle.log_reader.specs.{ValuesRead.integer_at}
use Rattle.log_reader.specs.Steps.{step, stepped, valued}
use Rattle.log_reader.specs.Symbols.{Written, Bare, Says, written, is_digits}
use Rattle.log_reader.specs.Quick.{room, ends_number, digits_before, BeginsWithNumber, IsInteger, TakesTokenInFront}
use Rattle.log_reader.specs.Quick.{is_value_due, TakesInteger, TakesStraight}
use Rattle.log_reader.specs.declared.straight.Straight.TheVariants.{Nothing, Took, Completed}
use Rattle.log_reader.proofs.TokenFronts.{word_in_front}

-- what the digits say
record Means (number count : ℕ) (bytes : List ℕ) (value n : ℕ) : Type 0 where
  k : ℕ
  end : n ≡ count + k
  run : prefix_len in_log_word bytes ≡ k
  inner : k < length bytes
  written : digits_value number (take k bytes) ≡ value
  digits : list_all is_ascii_digit (take k bytes) ≡ true
  small : value < 10 * room

digit_most : (b : ℕ) → is_ascii_digit b ≡ true → b ≤ 57
digit_most b d = leb-true b 57 (and_parts (nat_le 48 b) (nat_le b 57) d).1

digit_least : (b : ℕ) → is_ascii_digit b ≡ true → 48 ≤ b
digit_least b d = leb-true 48 b (and_parts (nat_le 48 b) (nat_le b 57) d).0

in_word : (b : ℕ) → is_ascii_digit b ≡ true → in_log_word b ≡ true
in_word b d = rw d refl

behind_word : (b : ℕ) → ends_number b ≡ true → in_log_word b ≡ false
behind_word b e = grind (arith, nat_tests)

digits_mean : (number count : ℕ) (bytes : List ℕ) (value n : ℕ) → number < 10 * room
    → digits_before number count bytes ≡ Some (value, n) → Means number count bytes value n
unfolding digits_before digits_value
digits_mean number count [] value n small e = absurd cc
digits_mean number count (b ∷ bytes) value n small e =
    elim (cases_Bool (is_ascii_digit b)) [
      | inl digit ↦ elim (cases_Bool (nat_lt number room)) [
        | inl more ↦
            let below : number < room = ltb-true number room more in
            let m = digits_mean (10 * number + (b - 48)) (suc count) bytes value n
            (omega (arith, below, digit_most b digit)) (rw (digit, more) at e) in
            record {
              k = suc m.k;
              end = omega (arith, m.end);
              run = rw (in_word b digit, m.run) (omega arith);
              inner = omega (arith, m.inner);
              written = m.written;
              digits = and_from (is_ascii_digit b) (list_all is_ascii_digit (take m.k bytes)) digit m.digits;
              small = m.small;
            }
        | inr full ↦ let lost : None ≡ Some (value, n) = rw (digit, full) at e in absurd cc
      ]
      | inr none ↦ elim (cases_Bool (ends_number b)) [
        | inl ends ↦
            let here : Some (number, count) ≡ Some (value, n) = rw (none, ends) at e in
            let number_is : number ≡ value = ap (λ (o : Option (ℕ × ℕ)). (unwrap_or o (0, 0)).0) here in
            let count_is : count ≡ n = ap (λ (o : Option (ℕ × ℕ)). (unwrap_or o (0, 0)).1) here in
            record {
              k = 0;
              end = omega (arith, count_is);
              run = rw (behind_word b ends) refl;
              inner = omega arith;
              written = number_is;
              digits = refl;
              small = omega (arith, small, number_is);
            }
        | inr other ↦ let lost : None ≡ Some (value, n) = rw (none, other) at e in absurd cc
      ]
    ]

-- the bytes begin with a Word that writes the number
pub record WritesNumber (bytes : List ℕ) (number n : ℕ) : Type 0 where
  pub run : prefix_len in_log_word bytes ≡ n
  pub inner : n < length bytes
  pub digits : is_digits (take n bytes) ≡ true
  pub written : digits_value 0 (take n bytes) ≡ number
  pub small : number < 10 * room

some_digits : (bytes : List ℕ) (n : ℕ) → 0 < n → n < length bytes → list_all is_ascii_digit (take n bytes) ≡ true
    → is_digits (take n bytes) ≡ true
some_digits [] n some inner d = absurd (omega (arith, inner))
some_digits (b ∷ bytes) zero some inner d = absurd (omega (arith, some))
some_digits (b ∷ bytes) (suc n) some inner d = d

pub writes_number : (bytes : List ℕ) (number n : ℕ) → BeginsWithNumber bytes number n → WritesNumber bytes number n
writes_number bytes number n d =
    let m = digits_mean 0 0 bytes number n (omega arith) d.found in
    let k : m.k ≡ n = omega (arith, m.end) in
    let inner : n < length bytes = omega (arith, m.inner, k) in
    record {
      run = m.run ∙ k;
      inner = inner;
      digits = some_digits bytes n d.some inner
          (ap (λ (j : ℕ). list_all is_ascii_digit (take j bytes)) (sym k) ∙ m.digits);
      written = ap (λ (j : ℕ). digits_value 0 (take j bytes)) (sym k) ∙ m.written;
      small = m.small;
    }

no_minus : (b : ℕ) → is_ascii_digit b ≡ true → (b == minus) ≡ false
no_minus b d = ne_eqb b minus (λ e. omega (arith, e, digit_least b d))

integer_read : (bytes : List ℕ) (value : ℤ) (n at : ℕ) → IsInteger bytes value n
    → integer_at at (take n bytes) ≡ Ok (values.Int value)
unfolding integer_at integer_value
integer_read [] value n at i = absurd (omega (arith, (writes_number [] i.number n i.digits).inner))
integer_read (b ∷ bytes) value zero at i = absurd (omega (arith, i.digits.some))
integer_read (b ∷ bytes) value (suc n) at i =
    let w = writes_number (b ∷ bytes) i.number (suc n) i.digits in
    let digit : is_ascii_digit b ≡ true =
    (and_parts (is_ascii_digit b) (list_all is_ascii_digit (take n bytes)) w.digits).0 in
    let fits : nat_lt i.number max_magnitude ≡ true = lt-ltb i.number max_magnitude (omega (arith, w.small)) in
    rw (no_minus b digit, w.digits, w.written, fits, i.is) refl

-- ---- the token

pub value_goes : (s : Stage) (w : Written) → is_value_due s ≡ true
    → (stage_after s (Says w) ≡ Some AfterValue) × (completes s (Says w) ≡ false)
value_goes AfterOpen w e = (refl, refl)
value_goes AfterComma w e = (refl, refl)
value_goes _ w e = absurd cc

module _ (sig : List PredOf) (limits : Limits) (p q : Partial) (at : ℕ) (bytes : List ℕ) (number n : ℕ)
    (d : BeginsWithNumber bytes number n) where
  abbrev word : Lexeme
  word = record { kind = Word; at = at; text = take n bytes }

  takes_word : completes p.stage (Says (Bare word.text)) ≡ false → step sig limits p word ≡ Ok q
      → TakesTokenInFront sig limits p at bytes n q
  takes_word goes_on steps =
      let w = writes_number bytes number n d in
      record {
        token = word;
        front = word_in_front bytes at n w.run d.some d.few w.inner;
        end = omega (arith, w.inner, length-take n bytes);
        goes_on = goes_on;
        steps = steps;
      }

  -- as a timestamp it is taken as the token would be
  pub stamp_takes : p.stage ≡ AfterAt → p.time ≤ number → q ≡ record p { stage = AfterStamp; time = number }
      → TakesTokenInFront sig limits p at bytes n q
  unfolding step
  stamp_takes stage later after =
      let w = writes_number bytes number n d in
      let fits : nat_le number last_timestamp ≡ true = le-leb number last_timestamp (omega (arith, w.small)) in
      let rises : nat_lt number p.time ≡ false = le-ltb number p.time later in
      takes_word (rw stage refl) (rw (stage, w.digits, w.written, fits, rises, after) refl)

-- as a value it is taken as the token would be
pub integer_takes : (sig : List PredOf) (limits : Limits) (p q : Partial) (at : ℕ) (bytes : List ℕ) (value : ℤ) (n : ℕ)
    (due : List Sort) → IsInteger bytes value n → is_value_due p.stage ≡ true → p.due ≡ Int ∷ due
    → q ≡ record p { stage = AfterValue; due = due; args = p.args ++ values.Int value ∷ [] }
    → TakesTokenInFront sig limits p at bytes n q
unfolding step
integer_takes sig limits p q at bytes value n due i stage sorts after =
    let text = take n bytes in
    let t : Lexeme = record { kind = Word; at = at; text = text } in
    takes_word sig limits p q at bytes i.number n i.digits (value_goes p.stage (Bare text) stage).1
    (ap (stepped sig limits p t) (value_goes p.stage (Bare text) stage).0
    ∙ ap (valued at (written t) p) sorts
    ∙ ap (λ (r : Result Value LogFault). r >>= λ v. Ok (record p {
      stage = AfterValue;
      due = due;
      args = p.args ++ v ∷ [];
    })) (integer_read bytes value n at i)
    ∙ ap Ok (sym after))

pub value_takes : (sig : List PredOf) (limits : Limits) (p q : Partial) (at : ℕ) (bytes : List ℕ) (result : Straight)
    → is_value_due p.stage ≡ true → TakesInteger p bytes (Ok result) q
    → TakesStraight sig limits p at bytes (Ok result) q
value_takes sig limits p q at bytes Nothing stage t = t
value_takes sig limits p q at bytes (Took n) stage t =
    integer_takes sig limits p q at bytes t.value n t.due t.integer stage t.sorts t.after
value_takes sig limits p q at bytes (Completed point) stage t = absurd t

-- ---- the loop over the digits

-- so few digits leave room for one more
pub few_digits : (number count : ℕ) → number < 10 ^ count → count ≤ 17 → number < room
few_digits number count small few =
    let power : 10 ^ 17 ≡ room = refl in
    omega (arith, small, power, pow-le-pow_right {n = 10} (omega arith) few)

pub one_more_digit : (number count next b : ℕ) → suc count ≡ next → number < 10 ^ count → is_ascii_digit b ≡ true
    → 10 * number + (b - 48) < 10 ^ next
one_more_digit number count next b is small digit =
    rw (sym is) (omega (arith, small, digit_most b digit, pow-succ' 10 count))

-- what is read of the first bytes is read of all
pub first_digits : (number count k : ℕ) (bytes : List ℕ) (found : ℕ × ℕ)
    → digits_before number count (take k bytes) ≡ Some found → digits_before number count bytes ≡ Some found
unfolding digits_before
first_digits number count zero bytes found e = absurd cc
first_digits number count (suc k) [] found e = absurd cc
first_digits number count (suc k) (b ∷ bytes) found e =
    elim (cases_Bool (is_ascii_digit b)) [
      | inl digit ↦ elim (cases_Bool (nat_lt number room)) [
        | inl more ↦
            rw (digit, more) (first_digits (10 * number + (b - 48)) (suc count) k bytes found (rw (digit, more) at e))
        | inr full ↦ let lost : None ≡ Some found = rw (digit, full) at e in absurd cc
      ]
      | inr none ↦ rw none (rw none at e)
    ]

module _ (number at : ℕ) (bytes : List ℕ) (inner : at < length bytes) where
  -- one more digit
  pub goes_at : (next : ℕ) → suc at ≡ next → is_ascii_digit (get_or bytes at 0) ≡ true → number < room
      → digits_before number at (drop at bytes)
      ≡ digits_before (10 * number + (get_or bytes at 0 - 48)) next (drop next bytes)
  unfolding digits_before
  goes_at next is digit small =
      rw (sym is) (rw (drop-cons bytes at 0 inner) (rw (digit, lt-ltb number room small) refl))

  -- the digits end
  pub ends_at : is_ascii_digit (get_or bytes at 0) ≡ false → ends_number (get_or bytes at 0) ≡ true
      → digits_before number at (drop at bytes) ≡ Some (number, at)
  unfolding digits_before
  ends_at none ends = rw (drop-cons bytes at 0 inner) (rw (none, ends) refl)

  -- something else stands there
  pub other_at : is_ascii_digit (get_or bytes at 0) ≡ false → ends_number (get_or bytes at 0) ≡ false
      → digits_before number at (drop at bytes) ≡ None
  unfolding digits_before
  other_at none other = rw (drop-cons bytes at 0 inner) (rw (none, other) refl)
