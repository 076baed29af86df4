-- What the grammar of logs sees of a token.
use Rattle.std.specs.Prelude.{ℕ, List, [], ◌∷◌, Bool, true, false}
use Rattle.std.specs.Char.{is_ascii_digit}
use Rattle.std.specs.List.{list_all}
use Rattle.mfotl_lex.specs.Contents.{content_of}
use Rattle.mfotl_lex.specs.Lexemes.{Lexeme}
use Rattle.mfotl_lex.specs.declared.kind.Kind.{Kind}
use Rattle.mfotl_lex.specs.declared.kind.Kind.TheVariants.{Word, Text, OpenParen, CloseParen, Comma, At, Semicolon}

-- a value as it is written: a Word by its bytes, or a Text by the bytes between its quotes
pub data Written : Type 0 where
  Bare : List ℕ → Written
  Quoted : List ℕ → Written

-- `@`, `(`, `)`, `,`, `;`, a Word or a Text, or a token that no log has
pub data Symbol : Type 0 where
  AtSign : Symbol
  Opening : Symbol
  Closing : Symbol
  Separator : Symbol
  Terminator : Symbol
  Says : Written → Symbol
  Stray : Symbol

-- a symbol behind which no more of the present time-point comes
abbrev pub ends_point : Symbol → Bool
ends_point AtSign = true
ends_point Terminator = true
ends_point _ = false

-- what the grammar sees of a kind of token with this content
abbrev pub symbol_of : Kind → List ℕ → Symbol
symbol_of Word content = Says (Bare content)
symbol_of Text content = Says (Quoted content)
symbol_of OpenParen content = Opening
symbol_of CloseParen content = Closing
symbol_of Comma content = Separator
symbol_of At content = AtSign
symbol_of Semicolon content = Terminator
symbol_of _ content = Stray

-- what a token says
abbrev pub token_content : Lexeme → List ℕ
token_content t = content_of t.kind t.text

-- a token as a value: only a Text is quoted
abbrev pub written_of : Kind → List ℕ → Written
written_of Text content = Quoted content
written_of _ content = Bare content

-- the same of a token
abbrev pub written : Lexeme → Written
written t = written_of t.kind (token_content t)

-- what the grammar sees of a token
abbrev pub symbol : Lexeme → Symbol
symbol t = symbol_of t.kind (token_content t)

-- one digit or more, and nothing else
abbrev pub is_digits : List ℕ → Bool
is_digits [] = false
is_digits (b ∷ bytes) = list_all is_ascii_digit (b ∷ bytes)
