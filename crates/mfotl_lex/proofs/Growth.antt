-- More bytes never change what was scanned.
use Rattle.std.proofs.Common.{◌≡◌, ℕ, suc, ◌≤◌, ◌<◌, Bool, true, false, cond, List, [], ◌∷◌, ◌++◌, length, take, nat_lt}
use Rattle.std.proofs.Common.{drop, refl, ap, inl, inr, arith, Option, Some, None}
use Rattle.std.specs.{Prelude.◌==◌, Char.is_ascii_digit, List.prefix_len}
use Rattle.std.proofs.lemmas.Bool.{cases_Bool, cases_lt, eqb-true}
use Rattle.std.proofs.{lemmas.Bool.Decides.nat_tests, lemmas.List.Folds.prefix_len-append}
use Rattle.std.proofs.{lemmas.List.Sums.prefix_len-le-length}
use Rattle.std.proofs.lemmas.List.{take-append-le, drop-append-le, length-append, length-drop, nil_from_length}
use Rattle.mfotl_lex.specs.declared.{kind.Kind.Kind, kind.Mode.Mode, kind.Mode.TheVariants.Plain}
use Rattle.mfotl_lex.specs.declared.{kind.Mode.TheVariants.Log, scan.Scan.Scan}
use Rattle.mfotl_lex.specs.declared.kind.Kind.TheVariants.{Less, LessEqual, Greater, GreaterEqual}
use Rattle.mfotl_lex.specs.declared.scan.Scan.TheVariants.{Unshown, Takes, Fails}
use Rattle.mfotl_lex.specs.Bytes.{quote, hash, minus, begins_plain_word, in_plain_word, in_log_word, in_text}
use Rattle.mfotl_lex.specs.{Blanks.blank_len, Numbers.integer_value, Numbers.is_int64}
use Rattle.mfotl_lex.specs.Scans.{word_scan, number_scan, minus_scan, closed_text, text_end, text_scan, order_scan}
use Rattle.mfotl_lex.specs.Scans.{mark_scan, plain_scan, log_scan, scan}
use Rattle.mfotl_lex.proofs.BlankLemmas.{no_space, blank_len-none}

-- what was shown is shown later too
abbrev pub Keeps : Scan → Scan → Type 0
Keeps Unshown later = Unit {0}
Keeps (Takes kind n) later = later ≡ Takes kind n
Keeps (Fails fault n) later = later ≡ Fails fault n

keeps_same : (s : Scan) → Keeps s s
keeps_same Unshown = tt
keeps_same (Takes kind n) = refl
keeps_same (Fails fault n) = refl

keeps_both : (b : Bool) (x y x' y' : Scan) → Keeps x x' → Keeps y y' → Keeps (cond b x y) (cond b x' y')
keeps_both true x y x' y' left right = left
keeps_both false x y x' y' left right = right

-- ---- the longest front that passes

prefix_grows : (p : ℕ → Bool) (bytes more : List ℕ) → prefix_len p bytes ≤ prefix_len p (bytes ++ more)
prefix_grows p bytes more = grind (arith, prefix_len-append, prefix_len-le-length)

prefix_stays : (p : ℕ → Bool) (bytes more : List ℕ) → prefix_len p bytes < length bytes
    → prefix_len p (bytes ++ more) ≡ prefix_len p bytes
prefix_stays p bytes more lt = grind (arith, nat_tests, prefix_len-append p bytes more)

-- ---- tokens

word_keeps : (ended : Bool) (limit count count' len len' : ℕ) → count ≤ count' →
    (count < len → count' ≡ count) → len ≤ len'
    → Keeps (word_scan false limit count len) (word_scan ended limit count' len')
word_keeps ended limit count count' len len' le same longer = grind (arith, nat_tests)

number_keeps : (ended : Bool) (count count' : ℕ) (bytes more : List ℕ) → (count < length bytes → count' ≡ count)
    → Keeps (number_scan false count bytes) (number_scan ended count' (bytes ++ more))
number_keeps ended count count' bytes more same = grind (arith, take-append-le, length-append)

minus_keeps : (ended : Bool) (bytes more : List ℕ) → Keeps (minus_scan false bytes) (minus_scan ended (bytes ++ more))
unfolding minus_scan
minus_keeps ended [] more = tt
minus_keeps ended (b ∷ bytes) more =
    keeps_both (is_ascii_digit b) _ _ _ _
    (number_keeps ended (suc (prefix_len is_ascii_digit (b ∷ bytes)))
    (suc (prefix_len is_ascii_digit (b ∷ bytes ++ more))) (minus ∷ b ∷ bytes) more
    (λ lt. ap suc (prefix_stays is_ascii_digit (b ∷ bytes) more (omega arith)))) refl

end_keeps : (ended : Bool) (content behind more : List ℕ)
    → Keeps (text_end false content behind) (text_end ended content (behind ++ more))
unfolding text_end
end_keeps ended content [] more = tt
end_keeps ended content (b ∷ behind) more = keeps_same _

text_keeps : (ended : Bool) (bytes more : List ℕ) → Keeps (text_scan false bytes) (text_scan ended (bytes ++ more))
unfolding text_scan text_end
text_keeps ended bytes more =
    let count = prefix_len in_text bytes in
    elim (cases_lt count (length bytes)) [
      | inl lt ↦
          rw (
            prefix_stays in_text bytes more lt,
            take-append-le count bytes more (omega arith),
            drop-append-le count bytes more (omega arith),
          )
          (keeps_both (nat_lt 4096 count) _ _ _ _ refl (end_keeps ended (take count bytes) (drop count bytes) more))
      | inr past ↦
          let e : drop count bytes ≡ [] = nil_from_length _ (omega (arith, length-drop count bytes)) in
          let grows = prefix_grows in_text bytes more in rw e (grind (arith, nat_tests))
    ]

order_keeps : (ended : Bool) (alone with_equal : Kind) (bytes more : List ℕ)
    → Keeps (order_scan false alone with_equal bytes) (order_scan ended alone with_equal (bytes ++ more))
unfolding order_scan
order_keeps ended alone with_equal [] more = tt
order_keeps ended alone with_equal (b ∷ bytes) more = keeps_same _

run_keeps : (ended : Bool) (limit : ℕ) (p : ℕ → Bool) (bytes more : List ℕ)
    → Keeps (word_scan false limit (prefix_len p bytes) (length bytes))
    (word_scan ended limit (prefix_len p (bytes ++ more)) (length (bytes ++ more)))
run_keeps ended limit p bytes more = grind (arith, word_keeps, prefix_grows, prefix_stays, length-append)

digits_keep : (ended : Bool) (bytes more : List ℕ) → Keeps (number_scan false (prefix_len is_ascii_digit bytes) bytes)
    (number_scan ended (prefix_len is_ascii_digit (bytes ++ more)) (bytes ++ more))
digits_keep ended bytes more = number_keeps ended _ _ bytes more (prefix_stays is_ascii_digit bytes more)

-- what is shown stays, whatever follows the bytes
pub scan_keeps : (mode : Mode) (ended : Bool) (bytes more : List ℕ)
    → Keeps (scan mode false bytes) (scan mode ended (bytes ++ more))
unfolding plain_scan log_scan
scan_keeps Plain ended [] more = tt
scan_keeps Plain ended (b ∷ bytes) more =
    keeps_both (begins_plain_word b) _ _ _ _ (run_keeps ended 64 in_plain_word (b ∷ bytes) more)
    (keeps_both (is_ascii_digit b) _ _ _ _ (digits_keep ended (b ∷ bytes) more)
    (keeps_both (b == minus) _ _ _ _ (minus_keeps ended bytes more)
    (keeps_both (b == quote) _ _ _ _ (text_keeps ended bytes more) (keeps_both (b == hash) _ _ _ _ tt
    (keeps_both (b == 60) _ _ _ _ (order_keeps ended Less LessEqual bytes more)
    (keeps_both (b == 62) _ _ _ _ (order_keeps ended Greater GreaterEqual bytes more) (keeps_same _)))))))
scan_keeps Log ended [] more = tt
scan_keeps Log ended (b ∷ bytes) more =
    keeps_both (in_log_word b) _ _ _ _ (run_keeps ended 4096 in_log_word (b ∷ bytes) more)
    (keeps_both (b == quote) _ _ _ _ (text_keeps ended bytes more) (keeps_both (b == hash) _ _ _ _ tt (keeps_same _)))

-- ---- where something is shown

abbrev pub IsShown : Scan → Type 0
IsShown Unshown = ⊥
IsShown (Takes kind n) = Unit {0}
IsShown (Fails fault n) = Unit {0}

pub scan_hash : (mode : Mode) (ended : Bool) (bytes : List ℕ) → scan mode ended (hash ∷ bytes) ≡ Unshown
unfolding plain_scan log_scan
scan_hash Plain ended bytes = refl
scan_hash Log ended bytes = refl

-- an open comment shows nothing
pub shown_no_hash : (mode : Mode) (ended : Bool) (b : ℕ) (bytes : List ℕ)
    → IsShown (scan mode ended (b ∷ bytes)) → (b == hash) ≡ false
shown_no_hash mode ended b bytes shown = grind (arith, cases_Bool, eqb-true, scan_hash)

shown_both : (b : Bool) (x y : Scan) → IsShown x → IsShown y → IsShown (cond b x y)
shown_both true x y left right = left
shown_both false x y left right = right

shown_else : (b : Bool) (y : Scan) → b ≡ false → IsShown y → IsShown (cond b Unshown y)
shown_else b y e shown = rw e shown

word_at_end : (limit count len : ℕ) → IsShown (word_scan true limit count len)
word_at_end limit count len = search (shown_both, tt)

number_at_end : (count : ℕ) (bytes : List ℕ) → IsShown (number_scan true count bytes)
number_at_end count bytes = shown_both (is_int64 (integer_value (take count bytes))) _ _ tt tt

minus_at_end : (bytes : List ℕ) → IsShown (minus_scan true bytes)
unfolding minus_scan
minus_at_end [] = tt
minus_at_end (b ∷ bytes) = search (shown_both, number_at_end, tt)

end_at_end : (content behind : List ℕ) → IsShown (text_end true content behind)
unfolding text_end closed_text
end_at_end content [] = tt
end_at_end content (b ∷ behind) = search (shown_both, tt)

text_at_end : (bytes : List ℕ) → IsShown (text_scan true bytes)
unfolding text_scan
text_at_end bytes = search (shown_both, end_at_end, tt)

order_at_end : (alone with_equal : Kind) (bytes : List ℕ) → IsShown (order_scan true alone with_equal bytes)
unfolding order_scan
order_at_end alone with_equal [] = tt
order_at_end alone with_equal (b ∷ bytes) = search (shown_both, tt)

mark_is_shown : (mark : Option Kind) → IsShown (mark_scan mark)
mark_is_shown None = tt
mark_is_shown (Some kind) = tt

-- at the end every byte behind the blanks shows a token or a fault
pub shown_at_end : (mode : Mode) (b : ℕ) (bytes : List ℕ) → (b == hash) ≡ false → IsShown (scan mode true (b ∷ bytes))
unfolding plain_scan log_scan
shown_at_end Plain b bytes no_comment = search (
  shown_both,
  shown_else,
  word_at_end,
  number_at_end,
  minus_at_end,
  text_at_end,
  order_at_end,
  mark_is_shown,
) depth 12
shown_at_end Log b bytes no_comment = grind (arith, shown_both, shown_else, word_at_end, text_at_end, mark_is_shown)

-- what is shown is scanned again
pub keeps_shown : (s later : Scan) → Keeps s later → IsShown s → later ≡ s
keeps_shown Unshown later k shown = absurd shown
keeps_shown (Takes kind n) later k shown = k
keeps_shown (Fails fault n) later k shown = k

-- no blank stands before what is shown, whatever follows
pub no_blank_before : (mode : Mode) (front more : List ℕ) (ended : Bool) → blank_len false front ≡ 0
    → IsShown (scan mode false front) → blank_len ended (front ++ more) ≡ 0
unfolding plain_scan log_scan
no_blank_before Plain [] more ended none shown = absurd shown
no_blank_before Log [] more ended none shown = absurd shown
no_blank_before mode (b ∷ bytes) more ended none shown = grind (arith, blank_len-none, no_space, shown_no_hash)
