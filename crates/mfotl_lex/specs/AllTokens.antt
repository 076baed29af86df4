-- The smallest reader, as an example of the layer of first faults: it takes every token, so only bytes that
-- form no token show a fault.
use Rattle.std.specs.Prelude.{◌≡◌, List, [], ◌∷◌, ◌++◌, Result, Ok, Err}
use Rattle.mfotl_lex.specs.declared.fault.LexFault.{LexFault}
use Rattle.mfotl_lex.specs.FirstFault.{Tail, Broken, Text, reading, ExactFaults, ExactSoundness, OneAnswer}
use Rattle.mfotl_lex.specs.Lexemes.{Lexeme}
use Rattle.mfotl_lex.specs.Texts.{StaysShown}

-- one token more
abbrev pub take_token : List Lexeme → Lexeme → Result (List Lexeme) LexFault
take_token ts t = Ok (ts ++ t ∷ [])

-- behind the last token: all of them, or the lexer's fault
abbrev pub all_taken : Tail LexFault → List Lexeme → Result (List Lexeme) LexFault
all_taken (Broken fault) ts = Err fault
all_taken _ ts = Ok ts

-- any tokens are viable
abbrev pub IsViable : List Lexeme → Type 0
IsViable ts = Unit {0}

-- no token shows a fault
abbrev pub IsCause : List Lexeme → Lexeme → LexFault → Type 0
IsCause front t fault = ⊥

-- bytes that form no token show it
abbrev pub IsLast : List Lexeme → Tail LexFault → LexFault → Type 0
IsLast ts tail fault = tail ≡ Broken fault

-- the tokens of a text that is whole
pub record IsValue (x : Text Lexeme LexFault) (ts : List Lexeme) : Type 0 where
  pub whole : (fault : LexFault) → x.tail ≡ Broken fault → ⊥
  pub value : ts ≡ x.list

-- what the layer says of this reader
pub record TokensAreTaken : Type 0 where
  pub exact : ExactFaults take_token [] all_taken IsViable IsCause IsLast
  pub sound : ExactSoundness take_token [] all_taken IsViable IsCause IsLast
  pub one : OneAnswer (reading take_token [] all_taken) IsValue
  pub stays : StaysShown take_token [] all_taken
