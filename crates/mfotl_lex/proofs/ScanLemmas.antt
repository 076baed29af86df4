-- What a scan gives lies within the bytes.
use Rattle.std.proofs.Common.{◌≡◌, ℕ, ◌+◌, ◌≤◌, ◌<◌, Bool, true, false, cond, List, [], ◌∷◌, length, take, drop, Option}
use Rattle.std.proofs.Common.{Some, None, arith, nat_lt}
use Rattle.std.specs.{Prelude.◌==◌, Char.is_ascii_digit, List.prefix_len}
use Rattle.std.proofs.{lemmas.Bool.cond_both, lemmas.Bool.eqb-true, lemmas.Bool.Decides.nat_tests}
use Rattle.std.proofs.{lemmas.List.length-take, lemmas.List.length-drop, lemmas.List.Sums.prefix_len-le-length}
use Rattle.mfotl_lex.specs.declared.{kind.Kind.Kind, kind.Mode.Mode, kind.Mode.TheVariants.Plain}
use Rattle.mfotl_lex.specs.declared.{kind.Mode.TheVariants.Log, scan.Scan.Scan, scan.Scan.TheVariants.Takes}
use Rattle.mfotl_lex.specs.declared.kind.Kind.TheVariants.{Integer, Less, LessEqual, Greater, GreaterEqual}
use Rattle.mfotl_lex.specs.Bytes.{quote, hash, minus, begins_plain_word, in_plain_word, in_log_word, in_text}
use Rattle.mfotl_lex.specs.Scans.{word_scan, number_scan, minus_scan, closed_text, text_end, text_scan, order_scan}
use Rattle.mfotl_lex.specs.Scans.{plain_mark, log_mark, mark_scan, plain_scan, log_scan, scan, IsWithin}

pub prefix_starts : (p : ℕ → Bool) (b : ℕ) (bytes : List ℕ) → p b ≡ true → 0 < prefix_len p (b ∷ bytes)
prefix_starts p b bytes h = rw h (omega arith)

pub word_begins : (b : ℕ) → begins_plain_word b ≡ true → in_plain_word b ≡ true
word_begins b h = grind (arith, nat_tests)

within_both : (bytes : List ℕ) (b : Bool) (x y : Scan) → IsWithin bytes x → IsWithin bytes y
    → IsWithin bytes (cond b x y)
within_both bytes true x y left right = left
within_both bytes false x y left right = right

word_within : (bytes : List ℕ) (ended : Bool) (limit count : ℕ) → 0 < count → count ≤ length bytes
    → IsWithin bytes (word_scan ended limit count (length bytes))
word_within bytes ended limit count some le = grind (arith, within_both)

number_within : (bytes : List ℕ) (ended : Bool) (count : ℕ) → 0 < count → count ≤ length bytes
    → IsWithin bytes (number_scan ended count bytes)
number_within bytes ended count some le = grind (arith, within_both, cond_both)

minus_within : (ended : Bool) (bytes : List ℕ) → IsWithin (minus ∷ bytes) (minus_scan ended bytes)
unfolding minus_scan
minus_within ended [] = within_both (minus ∷ []) ended _ _ (omega arith) tt
minus_within ended (b ∷ bytes) = grind (arith, prefix_len-le-length, within_both, number_within)

end_within : (first : ℕ) (bytes content behind : List ℕ) (ended : Bool) → length content + length behind ≡ length bytes
    → IsWithin (first ∷ bytes) (text_end ended content behind)
unfolding text_end closed_text
end_within first bytes content [] ended e = within_both (first ∷ bytes) ended _ _ (omega arith) tt
end_within first bytes content (b ∷ behind) ended e = grind (arith, within_both)

text_within : (first : ℕ) (bytes : List ℕ) (ended : Bool) → IsWithin (first ∷ bytes) (text_scan ended bytes)
unfolding text_scan
text_within first bytes ended =
    let count = prefix_len in_text bytes in
    let parts : length (take count bytes) + length (drop count bytes) ≡ length bytes = omega (
      arith,
      length-take count bytes,
      length-drop count bytes,
      prefix_len-le-length in_text bytes,
    ) in
    within_both (first ∷ bytes) (nat_lt 4096 count) _ _ (omega arith)
    (end_within first bytes (take count bytes) (drop count bytes) ended parts)

-- a mark is no Integer
abbrev IsMark : Option Kind → Type 0
IsMark None = Unit {0}
IsMark (Some Integer) = ⊥
IsMark (Some other) = Unit {0}

mark_takes : (bytes : List ℕ) (kind : Kind) (n : ℕ) → IsMark (Some kind) → 0 < n → n ≤ length bytes
    → IsWithin bytes (Takes kind n)
mark_takes bytes kind n m some le = (some, le, λ e. absurd (rw e at m))

order_within : (first : ℕ) (bytes : List ℕ) (ended : Bool) (alone with_equal : Kind) → IsMark (Some alone)
    → IsMark (Some with_equal) → IsWithin (first ∷ bytes) (order_scan ended alone with_equal bytes)
unfolding order_scan
order_within first [] ended alone with_equal p q = grind (arith, within_both, mark_takes)
order_within first (b ∷ bytes) ended alone with_equal p q = grind (arith, within_both, mark_takes)

mark_within : (first : ℕ) (bytes : List ℕ) (mark : Option Kind) → IsMark mark
    → IsWithin (first ∷ bytes) (mark_scan mark)
mark_within first bytes None m = omega arith
mark_within first bytes (Some kind) m = mark_takes (first ∷ bytes) kind 1 m (omega arith) (omega arith)

mark_or : (b : Bool) (mark other : Option Kind) → IsMark mark → IsMark other → IsMark (cond b mark other)
mark_or true mark other left right = left
mark_or false mark other left right = right

plain_mark_is : (b : ℕ) → IsMark (plain_mark b)
plain_mark_is b = search (mark_or, tt) depth 12

log_mark_is : (b : ℕ) → IsMark (log_mark b)
log_mark_is b = search (mark_or, tt) depth 12

-- what stands at the front lies within the bytes
pub scan_within : (mode : Mode) (ended : Bool) (bytes : List ℕ) → IsWithin bytes (scan mode ended bytes)
unfolding plain_scan log_scan
scan_within Plain ended [] = tt
scan_within Plain ended (b ∷ bytes) =
    let P : Scan → Type 0 = IsWithin (b ∷ bytes) in
    cond_both (begins_plain_word b) _ _ P
    (λ h. word_within (b ∷ bytes) ended 64 (prefix_len in_plain_word (b ∷ bytes))
    (prefix_starts in_plain_word b bytes (word_begins b h)) (prefix_len-le-length in_plain_word (b ∷ bytes)))
    (λ _. cond_both (is_ascii_digit b) _ _ P
    (λ h. number_within (b ∷ bytes) ended (prefix_len is_ascii_digit (b ∷ bytes))
    (prefix_starts is_ascii_digit b bytes h) (prefix_len-le-length is_ascii_digit (b ∷ bytes)))
    (λ _. cond_both (b == minus) _ _ P (λ h. rw (eqb-true b minus h) (minus_within ended bytes))
    (λ _. within_both (b ∷ bytes) (b == quote) _ _ (text_within b bytes ended)
    (within_both (b ∷ bytes) (b == hash) _ _ tt
    (within_both (b ∷ bytes) (b == 60) _ _ (order_within b bytes ended Less LessEqual tt tt)
    (within_both (b ∷ bytes) (b == 62) _ _ (order_within b bytes ended Greater GreaterEqual tt tt)
    (mark_within b bytes (plain_mark b) (plain_mark_is b))))))))
scan_within Log ended [] = tt
scan_within Log ended (b ∷ bytes) =
    cond_both (in_log_word b) _ _ (IsWithin (b ∷ bytes))
    (λ h. word_within (b ∷ bytes) ended 4096 (prefix_len in_log_word (b ∷ bytes))
    (prefix_starts in_log_word b bytes h) (prefix_len-le-length in_log_word (b ∷ bytes)))
    (λ _. within_both (b ∷ bytes) (b == quote) _ _ (text_within b bytes ended)
    (within_both (b ∷ bytes) (b == hash) _ _ tt (mark_within b bytes (log_mark b) (log_mark_is b))))
