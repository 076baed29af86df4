-- The tokens and what lies between them are the bytes, in order.
use Rattle.std.specs.Prelude.{◌≡◌, ℕ, ◌+◌, Bool, true, false, List, [], ◌∷◌, ◌++◌, length, None}
use Rattle.mfotl_lex.specs.Blanks.{blank_len}
use Rattle.mfotl_lex.specs.Places.{Place}
use Rattle.mfotl_lex.specs.Lexemes.{Lexeme, tokens}
use Rattle.mfotl_lex.specs.Growing.{stopped}

-- nothing but whitespace and comments; `ended` lets the last comment go without its line feed
abbrev pub AreBlanks : Bool → List ℕ → Type 0
AreBlanks ended bytes = blank_len ended bytes ≡ length bytes

-- the bytes from the offset `at` on are blanks, a token at its offset, and so on, then blanks and a rest
abbrev pub AreSpread : Bool → ℕ → List ℕ → List Lexeme → List ℕ → Type 0
AreSpread ended at bytes [] rest = (blanks : List ℕ) × AreBlanks ended blanks × (bytes ≡ blanks ++ rest)
AreSpread ended at bytes (t ∷ ts) rest =
    (blanks : List ℕ) × (behind : List ℕ) × AreBlanks false blanks × (bytes ≡ blanks ++ (t.text ++ behind))
    × (t.at ≡ at + length blanks) × AreSpread ended (t.at + length t.text) behind ts rest

-- and there is no rest at the end, unless a fault stands there
pub record AreTheBytes (p : Place) : Type 0 where
  pub spread : AreSpread p.ended p.at p.rest (tokens p).list (stopped p).rest
  pub whole : p.ended ≡ true → (tokens p).fault ≡ None → (stopped p).rest ≡ []

-- so from any place on
abbrev pub TokensAreTheBytes : Type 0
TokensAreTheBytes = (p : Place) → AreTheBytes p
