-- Tokens that are seen straight in a log's bytes, without a lexer.
use Rattle.std.specs.Prelude.{◌≡◌, ◌≤◌, ◌+◌, ◌-◌, ℕ, Bool, List, [], ◌∷◌, length, Some, Result, Ok, Err, option_map}
use Rattle.std.specs.Prelude.{if◌then◌else◌}
use Rattle.mfotl_lex.specs.Bytes.{is_space}
use Rattle.mfotl_lex.specs.Lexemes.{Lexeme, lexeme, next_token, after}
use Rattle.mfotl_lex.specs.Places.{Place}
use Rattle.mfotl_lex.specs.declared.fault.LexFault.{LexFault}
use Rattle.mfotl_lex.specs.declared.kind.Mode.TheVariants.{Log}
use Rattle.log_reader.specs.declared.found.Found.{Found}

-- the beginning of bytes of a log, the first of which has the offset `at`
abbrev pub front_of : List ℕ → ℕ → Bool → Place
front_of bytes at ended = record { mode = Log; at = at; rest = bytes; ended = ended }

-- one blank in front, or none
abbrev pub blank_before : List ℕ → ℕ
blank_before [] = 0
blank_before (b ∷ bytes) = if is_space b then 1 else 0

-- the first token there is this one, whether or not more bytes come
pub record IsInFront (bytes : List ℕ) (at : ℕ) (t : Lexeme) : Type 0 where
  pub is : (ended : Bool) → next_token (front_of bytes at ended) ≡ Ok (Some t)
  pub behind : (ended : Bool) → (after (front_of bytes at ended)).at ≡ t.at + length t.text
  pub first : at ≤ t.at
  pub last : t.at + length t.text ≤ at + length bytes

-- what stands at a place of bytes, the first of which has the offset `from`
abbrev pub FindsToken : ℕ → Place → Result Found LexFault → Type 0
FindsToken from p (Ok f) = (next_token p ≡ Ok (option_map lexeme f.token)) × (f.behind ≡ (after p).at - from)
FindsToken from p (Err fault) = next_token p ≡ Err fault
