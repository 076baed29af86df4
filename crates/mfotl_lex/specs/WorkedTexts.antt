-- Texts and the tokens that they are cut into, worked out by hand.
use Rattle.std.specs.Prelude.{List, [], ◌∷◌, ◌++◌, replicate, codes}
use Rattle.mfotl_lex.specs.declared.fault.LexFaultKind.TheVariants.{BadByte, OpenText, NumberRange, TextLong, BadUtf8}
use Rattle.mfotl_lex.specs.declared.kind.Kind.TheVariants.{Word, Integer, Text, OpenParen, CloseParen, OpenBracket}
use Rattle.mfotl_lex.specs.declared.kind.Kind.TheVariants.{CloseBracket, Comma, Colon, Dot, Question, Star, Equal}
use Rattle.mfotl_lex.specs.declared.kind.Kind.TheVariants.{Less, LessEqual, Greater, GreaterEqual, At, Semicolon}
use Rattle.mfotl_lex.specs.declared.kind.Mode.TheVariants.{Plain, Log}
use Rattle.mfotl_lex.specs.Cuts.{Worked, TextsAreCut, token, whole, stops}

-- word, Integer and marks, in Plain mode
abbrev pub plain_words : List Worked
plain_words =
    (codes "7d", whole (token Integer 0 1 ∷ token Word 1 1 ∷ [])) ∷
    ([], whole []) ∷
    (codes " " ++ (9 ∷ 13 ∷ 10 ∷ []), whole []) ∷
    (codes "p(int)", whole (token Word 0 1 ∷ token OpenParen 1 1 ∷ token Word 2 3 ∷ token CloseParen 5 1 ∷ [])) ∷
    (codes "_ NOT", whole (token Word 0 1 ∷ token Word 2 3 ∷ [])) ∷
    (codes "a_9Z", whole (token Word 0 4 ∷ [])) ∷
    (codes "9a_", whole (token Integer 0 1 ∷ token Word 1 2 ∷ [])) ∷
    (codes "-5", whole (token Integer 0 2 ∷ [])) ∷
    (codes "--5", stops [] BadByte 0) ∷
    (codes "-", stops [] BadByte 0) ∷
    (codes "- 5", stops [] BadByte 0) ∷
    (codes "5-", stops (token Integer 0 1 ∷ []) BadByte 1) ∷
    (codes "5-3", whole (token Integer 0 1 ∷ token Integer 1 2 ∷ [])) ∷
    (codes "x-y", stops (token Word 0 1 ∷ []) BadByte 1) ∷ (
      codes "[0,*)",
      whole (token OpenBracket 0 1 ∷ token Integer 1 1 ∷ token Comma 2 1 ∷ token Star 3 1 ∷ token CloseParen 4 1 ∷ []),
    ) ∷ (
      codes "?x:.a]",
      whole (token Question 0 1 ∷ token Word 1 1 ∷ token Colon 2 1 ∷ token Dot 3 1 ∷ token Word 4 1 ∷
          token CloseBracket 5 1 ∷ []),
    ) ∷
    (codes "<", whole (token Less 0 1 ∷ [])) ∷
    (codes "<=", whole (token LessEqual 0 2 ∷ [])) ∷
    (codes "<==", whole (token LessEqual 0 2 ∷ token Equal 2 1 ∷ [])) ∷
    (codes "<<=", whole (token Less 0 1 ∷ token LessEqual 1 2 ∷ [])) ∷
    (codes "=<", whole (token Equal 0 1 ∷ token Less 1 1 ∷ [])) ∷
    (codes ">", whole (token Greater 0 1 ∷ [])) ∷
    (codes ">=x", whole (token GreaterEqual 0 2 ∷ token Word 2 1 ∷ [])) ∷
    (codes "> =", whole (token Greater 0 1 ∷ token Equal 2 1 ∷ [])) ∷
    (codes "<>", whole (token Less 0 1 ∷ token Greater 1 1 ∷ [])) ∷
    []

-- bytes that begin no token, in Plain mode
abbrev pub plain_strays : List Worked
plain_strays =
    (codes "@", stops [] BadByte 0) ∷
    (codes "p;", stops (token Word 0 1 ∷ []) BadByte 1) ∷
    (codes "a/b", stops (token Word 0 1 ∷ []) BadByte 1) ∷
    (codes "!", stops [] BadByte 0) ∷
    ((0 ∷ []), stops [] BadByte 0) ∷
    (codes "a" ++ (12 ∷ []), stops (token Word 0 1 ∷ []) BadByte 1) ∷
    (codes "a" ++ (127 ∷ []), stops (token Word 0 1 ∷ []) BadByte 1) ∷
    (codes "a" ++ (195 ∷ 169 ∷ []), stops (token Word 0 1 ∷ []) BadByte 1) ∷
    []

-- numbers, in Plain mode
abbrev pub plain_numbers : List Worked
plain_numbers =
    (codes "9223372036854775807", whole (token Integer 0 19 ∷ [])) ∷
    (codes "9223372036854775808", stops [] NumberRange 0) ∷
    (codes "-9223372036854775808", whole (token Integer 0 20 ∷ [])) ∷
    (codes "x -9223372036854775809", stops (token Word 0 1 ∷ []) NumberRange 2) ∷
    (codes "18446744073709551617", stops [] NumberRange 0) ∷
    (codes "340282366920938463463374607431768211457", stops [] NumberRange 0) ∷
    (codes "00000000000000000000007", whole (token Integer 0 23 ∷ [])) ∷
    (codes "-0", whole (token Integer 0 2 ∷ [])) ∷
    (codes "9223372036854775808d", stops [] NumberRange 0) ∷
    []

-- Texts that are not closed, in Plain mode
abbrev pub plain_open_texts : List Worked
plain_open_texts =
    ((34 ∷ []) ++ codes "a", stops [] OpenText 0) ∷
    (codes "x " ++ (34 ∷ []), stops (token Word 0 1 ∷ []) OpenText 2) ∷
    ((34 ∷ []) ++ codes "a" ++ (10 ∷ []) ++ codes "b" ++ (34 ∷ []), stops [] BadByte 2) ∷
    ((34 ∷ []) ++ codes "a" ++ (31 ∷ []), stops [] BadByte 2) ∷
    ((34 ∷ 195 ∷ []), stops [] OpenText 0) ∷
    ((34 ∷ 195 ∷ 1 ∷ 34 ∷ []), stops [] BadByte 2) ∷
    []

-- Texts that are closed, in either mode
abbrev pub closed_texts : List Worked
closed_texts =
    ((34 ∷ 34 ∷ []), whole (token Text 0 2 ∷ [])) ∷
    ((34 ∷ []) ++ codes "a #;" ++ (34 ∷ []) ++ codes "b", whole (token Text 0 6 ∷ token Word 6 1 ∷ [])) ∷
    ((34 ∷ 195 ∷ 169 ∷ 34 ∷ []), whole (token Text 0 4 ∷ [])) ∷
    ((34 ∷ 195 ∷ 34 ∷ []), stops [] BadUtf8 0) ∷
    (codes "a" ++ (34 ∷ 128 ∷ 34 ∷ []), stops (token Word 0 1 ∷ []) BadUtf8 1) ∷
    []

-- words of the greatest size and of a byte more, in Plain mode
abbrev pub plain_long_words : List Worked
plain_long_words =
    (replicate 64 97, whole (token Word 0 64 ∷ [])) ∷
    (replicate 65 97, stops [] TextLong 0) ∷
    []

-- the same in Log mode
abbrev pub log_long_words : List Worked
log_long_words =
    (replicate 4096 97, whole (token Word 0 4096 ∷ [])) ∷
    (replicate 4097 97, stops [] TextLong 0) ∷
    []

-- Texts of the greatest size and of a byte more, in either mode
abbrev pub long_texts : List Worked
long_texts =
    ((34 ∷ []) ++ replicate 4096 97 ++ (34 ∷ []), whole (token Text 0 4098 ∷ [])) ∷
    ((34 ∷ []) ++ replicate 4097 97 ++ (34 ∷ []), stops [] TextLong 0) ∷
    []

-- comments, in Plain mode
abbrev pub plain_comments : List Worked
plain_comments =
    (codes "# all", whole []) ∷
    (codes "#" ++ (10 ∷ []) ++ codes "7", whole (token Integer 2 1 ∷ [])) ∷
    (codes "a#b" ++ (10 ∷ []) ++ codes "c", whole (token Word 0 1 ∷ token Word 4 1 ∷ [])) ∷
    (codes "#a" ++ (13 ∷ []) ++ codes "b", whole []) ∷
    (codes "#" ++ (0 ∷ 255 ∷ 34 ∷ 10 ∷ []) ++ codes ";", stops [] BadByte 5) ∷
    (codes "##" ++ (10 ∷ []) ++ codes "#", whole []) ∷
    (codes "#" ++ (10 ∷ 10 ∷ []) ++ codes "#x" ++ (10 ∷ []) ++ codes "*", whole (token Star 6 1 ∷ [])) ∷
    []

-- words and marks, in Log mode
abbrev pub log_words : List Worked
log_words = (
  codes "@1 publish(60); @2;",
  whole (token At 0 1 ∷ token Word 1 1 ∷ token Word 3 7 ∷ token OpenParen 10 1 ∷ token Word 11 2 ∷
      token CloseParen 13 1 ∷ token Semicolon 14 1 ∷ token At 16 1 ∷ token Word 17 1 ∷ token Semicolon 18 1 ∷ []),
) ∷
    ([], whole []) ∷
    ((9 ∷ []) ++ codes " " ++ (13 ∷ 10 ∷ []), whole []) ∷
    (codes "-", whole (token Word 0 1 ∷ [])) ∷
    (codes "a[b]/c:d-e.f!g_9", whole (token Word 0 16 ∷ [])) ∷
    (codes "a,b", whole (token Word 0 1 ∷ token Comma 1 1 ∷ token Word 2 1 ∷ [])) ∷
    (codes "7d", whole (token Word 0 2 ∷ [])) ∷
    (codes "-9223372036854775809", whole (token Word 0 20 ∷ [])) ∷
    (codes "!_-", whole (token Word 0 3 ∷ [])) ∷
    (codes "()", whole (token OpenParen 0 1 ∷ token CloseParen 1 1 ∷ [])) ∷
    (codes "@@", whole (token At 0 1 ∷ token At 1 1 ∷ [])) ∷
    (codes ";;", whole (token Semicolon 0 1 ∷ token Semicolon 1 1 ∷ [])) ∷
    (codes "a b", whole (token Word 0 1 ∷ token Word 2 1 ∷ [])) ∷
    []

-- bytes that begin no token, in Log mode
abbrev pub log_strays : List Worked
log_strays =
    (codes "?", stops [] BadByte 0) ∷
    (codes "*", stops [] BadByte 0) ∷
    (codes "a=b", stops (token Word 0 1 ∷ []) BadByte 1) ∷
    (codes "<=", stops [] BadByte 0) ∷
    (codes ">", stops [] BadByte 0) ∷
    (codes "a?", stops (token Word 0 1 ∷ []) BadByte 1) ∷
    (codes "{", stops [] BadByte 0) ∷
    (codes "'", stops [] BadByte 0) ∷
    (codes "a+b", stops (token Word 0 1 ∷ []) BadByte 1) ∷
    ((92 ∷ []), stops [] BadByte 0) ∷
    ((0 ∷ []), stops [] BadByte 0) ∷
    (codes "a" ++ (11 ∷ []), stops (token Word 0 1 ∷ []) BadByte 1) ∷
    (codes "a" ++ (127 ∷ []), stops (token Word 0 1 ∷ []) BadByte 1) ∷
    ((128 ∷ []), stops [] BadByte 0) ∷
    []

-- Texts that are not closed, in Log mode
abbrev pub log_open_texts : List Worked
log_open_texts =
    ((34 ∷ []), stops [] OpenText 0) ∷
    (codes "@1 " ++ (34 ∷ []) ++ codes "abc", stops (token At 0 1 ∷ token Word 1 1 ∷ []) OpenText 3) ∷
    ((34 ∷ []) ++ codes "a" ++ (9 ∷ []) ++ codes "b" ++ (34 ∷ []), stops [] BadByte 2) ∷
    ((34 ∷ 128 ∷ 10 ∷ 34 ∷ []), stops [] BadByte 2) ∷
    []

-- comments, in Log mode
abbrev pub log_comments : List Worked
log_comments =
    (codes "a#b", whole (token Word 0 1 ∷ [])) ∷
    (codes "a #b" ++ (10 ∷ []) ++ codes "c", whole (token Word 0 1 ∷ token Word 5 1 ∷ [])) ∷
    (codes "#" ++ (13 ∷ []) ++ codes "@", whole []) ∷
    (codes "# " ++ (10 ∷ []) ++ codes " # " ++ (10 ∷ []), whole []) ∷
    []

-- each of them
pub record WorkedTexts : Type 0 where
  pub plain_words : TextsAreCut Plain plain_words
  pub plain_strays : TextsAreCut Plain plain_strays
  pub plain_numbers : TextsAreCut Plain plain_numbers
  pub plain_open_texts : TextsAreCut Plain plain_open_texts
  pub plain_closed_texts : TextsAreCut Plain closed_texts
  pub plain_long_words : TextsAreCut Plain plain_long_words
  pub plain_long_texts : TextsAreCut Plain long_texts
  pub plain_comments : TextsAreCut Plain plain_comments
  pub log_words : TextsAreCut Log log_words
  pub log_strays : TextsAreCut Log log_strays
  pub log_open_texts : TextsAreCut Log log_open_texts
  pub log_closed_texts : TextsAreCut Log closed_texts
  pub log_long_words : TextsAreCut Log log_long_words
  pub log_long_texts : TextsAreCut Log long_texts
  pub log_comments : TextsAreCut Log log_comments
