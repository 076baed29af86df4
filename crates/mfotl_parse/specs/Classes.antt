-- What a token is to the grammar, whatever stands before it. Keywords are written in capitals.
use Rattle.std.specs.Prelude.{ℕ, true, false, List, Option, Some, None, codes, if◌then◌else◌}
use Rattle.std.specs.Str.{bytes_eq}
use Rattle.mfotl_lex.specs.declared.kind.Kind.{Kind}
use Rattle.mfotl_lex.specs.declared.kind.Kind.TheVariants as kinds
use Rattle.mfotl_lex.specs.Lexemes.{Lexeme}
use Rattle.mfotl_lex.specs.Numbers.{integer_value}
use Rattle.mfotl_model.specs.declared.term.Sign.TheVariants as signs
use Rattle.mfotl_parse.specs.declared.class.Class.{Class}
use Rattle.mfotl_parse.specs.declared.class.Class.TheVariants as classes
use Rattle.mfotl_parse.specs.declared.class.Operator.TheVariants as operators
use Rattle.mfotl_parse.specs.declared.class.Quantifier.TheVariants as quantifiers
use Rattle.mfotl_parse.specs.declared.class.Temporal.TheVariants as temporals

-- a temporal operator of one operand, or a name
unfoldable pub temporal_class : List ℕ → Class
temporal_class word =
    if bytes_eq word (codes "PREVIOUS") then classes.Temporal temporals.Previous
    else if bytes_eq word (codes "NEXT") then classes.Temporal temporals.Next
    else if bytes_eq word (codes "ONCE") then classes.Temporal temporals.Once
    else if bytes_eq word (codes "HISTORICALLY") then classes.Temporal temporals.Historically
    else if bytes_eq word (codes "EVENTUALLY") then classes.Temporal temporals.Eventually
    else if bytes_eq word (codes "ALWAYS") then classes.Temporal temporals.Always
    else classes.Name

-- an operator between operands, or one of the above
unfoldable pub operator_class : List ℕ → Class
operator_class word =
    if bytes_eq word (codes "AND") then classes.Operator operators.And
    else if bytes_eq word (codes "OR") then classes.Operator operators.Or
    else if bytes_eq word (codes "IMPLIES") then classes.Operator operators.Implies
    else if bytes_eq word (codes "EQUIV") then classes.Operator operators.Equiv
    else if bytes_eq word (codes "SINCE") then classes.Operator operators.Since
    else if bytes_eq word (codes "UNTIL") then classes.Operator operators.Until
    else temporal_class word

-- any Word
unfoldable pub word_class : List ℕ → Class
word_class word =
    if bytes_eq word (codes "NOT") then classes.Not
    else if bytes_eq word (codes "TRUE") then classes.Truth true
    else if bytes_eq word (codes "FALSE") then classes.Truth false
    else if bytes_eq word (codes "EXISTS") then classes.Quantifier quantifiers.Exists
    else if bytes_eq word (codes "FORALL") then classes.Quantifier quantifiers.Forall
    else if bytes_eq word (codes "_") then classes.Blank
    else operator_class word

-- a token by its kind and its text
abbrev pub class : Kind → List ℕ → Class
class kinds.Word text = word_class text
class kinds.Integer text = classes.Integer (integer_value text)
class kinds.Text text = classes.Text
class kinds.OpenParen text = classes.OpenParen
class kinds.CloseParen text = classes.CloseParen
class kinds.OpenBracket text = classes.OpenBracket
class kinds.CloseBracket text = classes.CloseBracket
class kinds.Comma text = classes.Comma
class kinds.Colon text = classes.Other
class kinds.Dot text = classes.Dot
class kinds.Question text = classes.Question
class kinds.Star text = classes.Star
class kinds.Equal text = classes.Sign signs.Equal
class kinds.Less text = classes.Sign signs.Less
class kinds.LessEqual text = classes.Sign signs.LessEqual
class kinds.Greater text = classes.Sign signs.Greater
class kinds.GreaterEqual text = classes.Sign signs.GreaterEqual
class kinds.At text = classes.Other
class kinds.Semicolon text = classes.Other

-- the class of a token
abbrev pub class_of : Lexeme → Class
class_of t = class t.kind t.text

-- how many seconds a unit's Word stands for
abbrev pub unit_of : List ℕ → Option ℕ
unit_of word =
    if bytes_eq word (codes "s") then Some 1
    else if bytes_eq word (codes "m") then Some 60
    else if bytes_eq word (codes "h") then Some 3600
    else if bytes_eq word (codes "d") then Some 86400
    else None
