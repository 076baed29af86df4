-- What stands at the front of bytes that begin with no blank: a whole token of so many bytes, a fault
-- so many bytes further on, or nothing that is shown yet. `ended` says that the bytes are at their
-- end; a token is whole when the byte after it was seen, or at the end. A mark other than `<` and `>`,
-- and a closed Text, are whole at once.
use Rattle.std.specs.Prelude.{◌≡◌, ℕ, suc, ◌+◌, ◌<◌, ◌≤◌, IsTrue, Bool, ◌||◌, List, [], ◌∷◌, length, take, drop}
use Rattle.std.specs.Prelude.{Option, Some, None, nat_lt, ◌==◌, if◌then◌else◌}
use Rattle.std.specs.List.{prefix_len}
use Rattle.std.specs.Char.{is_ascii_digit}
use Rattle.std.specs.Str.{is_utf8}
use Rattle.mfotl_lex.specs.declared.fault.LexFaultKind.TheVariants.{BadByte, OpenText, NumberRange, TextLong, BadUtf8}
use Rattle.mfotl_lex.specs.declared.kind.Kind.{Kind}
use Rattle.mfotl_lex.specs.declared.kind.Kind.TheVariants.{Word, Integer, Text, OpenParen, CloseParen, OpenBracket}
use Rattle.mfotl_lex.specs.declared.kind.Kind.TheVariants.{CloseBracket, Comma, Colon, Dot, Question, Star, Equal}
use Rattle.mfotl_lex.specs.declared.kind.Kind.TheVariants.{Less, LessEqual, Greater, GreaterEqual, At, Semicolon}
use Rattle.mfotl_lex.specs.declared.kind.Mode.{Mode}
use Rattle.mfotl_lex.specs.declared.kind.Mode.TheVariants.{Plain, Log}
use Rattle.mfotl_lex.specs.declared.scan.Scan.{Scan}
use Rattle.mfotl_lex.specs.declared.scan.Scan.TheVariants.{Unshown, Takes, Fails}
use Rattle.mfotl_lex.specs.Bytes.{quote, hash, minus, equals_sign, begins_plain_word, in_plain_word, in_log_word}
use Rattle.mfotl_lex.specs.Bytes.{in_text}
use Rattle.mfotl_lex.specs.Limits.{max_word, max_log_word, max_text}
use Rattle.mfotl_lex.specs.Numbers.{integer_value, is_int64}

-- a token of `count` bytes out of `len`, where only the byte after it or the end makes it whole
abbrev pub whole_token : Bool → Kind → ℕ → ℕ → Scan
whole_token ended kind count len = if ended || nat_lt count len then Takes kind count else Unshown

-- a Word is too long as soon as the first byte past the limit was seen
abbrev pub word_scan : Bool → ℕ → ℕ → ℕ → Scan
word_scan ended limit count len =
    if nat_lt limit count then Fails TextLong 0 else whole_token ended Word count len

-- an Integer of `count` bytes
abbrev pub number_scan : Bool → ℕ → List ℕ → Scan
number_scan ended count bytes =
    if ended || nat_lt count (length bytes)
    then (if is_int64 (integer_value (take count bytes)) then Takes Integer count else Fails NumberRange 0)
    else Unshown

-- what a `-` begins, by the bytes behind it: an Integer only directly before a digit
unfoldable pub minus_scan : Bool → List ℕ → Scan
minus_scan ended [] = if ended then Fails BadByte 0 else Unshown
minus_scan ended (b ∷ bytes) =
    if is_ascii_digit b
    then number_scan ended (suc (prefix_len is_ascii_digit (b ∷ bytes))) (minus ∷ b ∷ bytes)
    else Fails BadByte 0

-- a Text whose closing quote was seen
unfoldable pub closed_text : List ℕ → Scan
closed_text content =
    if is_utf8 content then Takes Text (length content + 2) else Fails BadUtf8 0

-- a Text by its content and what stands behind that
unfoldable pub text_end : Bool → List ℕ → List ℕ → Scan
text_end ended content [] = if ended then Fails OpenText 0 else Unshown
text_end ended content (b ∷ bytes) =
    if b == quote then closed_text content else Fails BadByte (length content + 1)

-- a Text by the bytes behind its opening quote
unfoldable pub text_scan : Bool → List ℕ → Scan
text_scan ended bytes =
    let count = prefix_len in_text bytes in
    if nat_lt max_text count then Fails TextLong 0 else text_end ended (take count bytes) (drop count bytes)

-- `<` or `>`, alone or with a `=` behind it
unfoldable pub order_scan : Bool → Kind → Kind → List ℕ → Scan
order_scan ended alone with_equal [] = if ended then Takes alone 1 else Unshown
order_scan ended alone with_equal (b ∷ bytes) =
    if b == equals_sign then Takes with_equal 2 else Takes alone 1

-- the mark that a byte is in Plain mode
abbrev pub plain_mark : ℕ → Option Kind
plain_mark b =
    if b == 40 then Some OpenParen
    else if b == 41 then Some CloseParen
    else if b == 91 then Some OpenBracket
    else if b == 93 then Some CloseBracket
    else if b == 44 then Some Comma
    else if b == 58 then Some Colon
    else if b == 46 then Some Dot
    else if b == 63 then Some Question
    else if b == 42 then Some Star
    else if b == 61 then Some Equal
    else None

-- the mark that a byte is in Log mode
abbrev pub log_mark : ℕ → Option Kind
log_mark b =
    if b == 64 then Some At
    else if b == 40 then Some OpenParen
    else if b == 41 then Some CloseParen
    else if b == 44 then Some Comma
    else if b == 59 then Some Semicolon
    else None

-- a mark of one byte, and a byte that begins nothing
abbrev pub mark_scan : Option Kind → Scan
mark_scan (Some mark) = Takes mark 1
mark_scan None = Fails BadByte 0

-- the front in Plain mode, by its first byte; only a comment whose end isn't shown begins with `#`
unfoldable pub plain_scan : Bool → List ℕ → Scan
plain_scan ended [] = Unshown
plain_scan ended (b ∷ bytes) =
    if begins_plain_word b
    then word_scan ended max_word (prefix_len in_plain_word (b ∷ bytes)) (length (b ∷ bytes))
    else if is_ascii_digit b
    then number_scan ended (prefix_len is_ascii_digit (b ∷ bytes)) (b ∷ bytes)
    else if b == minus then minus_scan ended bytes
    else if b == quote then text_scan ended bytes
    else if b == hash then Unshown
    else if b == 60 then order_scan ended Less LessEqual bytes
    else if b == 62 then order_scan ended Greater GreaterEqual bytes
    else mark_scan (plain_mark b)

-- the front in Log mode
unfoldable pub log_scan : Bool → List ℕ → Scan
log_scan ended [] = Unshown
log_scan ended (b ∷ bytes) =
    if in_log_word b
    then word_scan ended max_log_word (prefix_len in_log_word (b ∷ bytes)) (length (b ∷ bytes))
    else if b == quote then text_scan ended bytes
    else if b == hash then Unshown
    else mark_scan (log_mark b)

-- the front in a mode
abbrev pub scan : Mode → Bool → List ℕ → Scan
scan Plain ended bytes = plain_scan ended bytes
scan Log ended bytes = log_scan ended bytes

-- what was scanned lies within the bytes: a token takes a byte at least, and an Integer has 64 bits
abbrev pub IsWithin : List ℕ → Scan → Type 0
IsWithin bytes Unshown = Unit {0}
IsWithin bytes (Takes kind n) =
    (0 < n) × (n ≤ length bytes) × (kind ≡ Integer → IsTrue (is_int64 (integer_value (take n bytes))))
IsWithin bytes (Fails fault n) = n ≤ length bytes
