-- How bytes become a text that a reader reads: their whole tokens, and what stands behind these.
use Rattle.std.specs.Prelude.{◌≡◌, ℕ, ◌+◌, Bool, true, false, List, length, Option, Some, None, Result, Err}
use Rattle.mfotl_lex.specs.declared.fault.LexFault.{LexFault}
use Rattle.mfotl_lex.specs.declared.kind.Mode.{Mode}
use Rattle.mfotl_lex.specs.FirstFault.{◌>>=◌, Tail, Broken, End, More, Text, run, reading, given}
use Rattle.mfotl_lex.specs.Growing.{grown}
use Rattle.mfotl_lex.specs.Lexemes.{Lexeme, tokens}
use Rattle.mfotl_lex.specs.Places.{Place, beginning}

-- a fault of the lexer; else the end, at this offset, where it is told
abbrev pub tail_of : Bool → ℕ → Option LexFault → Tail LexFault
tail_of ended end (Some fault) = Broken fault
tail_of true end None = End end
tail_of false end None = More

-- the bytes from a place on
abbrev pub text_at : Place → Text Lexeme LexFault
text_at p = record { list = (tokens p).list; tail = tail_of p.ended (p.at + length p.rest) (tokens p).fault }

-- bytes that are all there are
abbrev pub text_of : Mode → List ℕ → Text Lexeme LexFault
text_of mode bytes = record {
  list = (tokens (beginning mode bytes)).list;
  tail = tail_of true (length bytes) (tokens (beginning mode bytes)).fault;
}

module _ {S L E V : Type 0} (step : S → Lexeme → Result S E) (at_tail : Tail L → S → Result V E)
    (tail : Option LexFault → Tail L) where
  -- what the bytes from a place on say behind what was read, where `tail` is what stands behind their tokens
  unfoldable pub reading_on : Place → S → Result V E
  reading_on p s = run step (tokens p).list s >>= λ q. at_tail (tail (tokens p).fault) q

module _ {S L E O : Type 0} (step : S → Lexeme → Result S E) (gives : S → Lexeme → List O)
    (last : Tail L → S → List O) (tail : Option LexFault → Tail L) where
  -- what a reader gives on its way over the bytes from a place on, and then behind their tokens
  unfoldable pub given_on : Place → S → List O
  given_on p s = given step gives (last (tail (tokens p).fault)) (tokens p).list s

module _ {S E V : Type 0} (step : S → Lexeme → Result S E) (start : S) (at_tail : Tail LexFault → S → Result V E) where
  -- what bytes whose end isn't told show is shown by any that begin with them
  abbrev pub StaysShown : Type 0
  StaysShown = (p : Place) (more : List ℕ) (ended : Bool) (fault : E) → p.ended ≡ false
      → reading step start at_tail (text_at p) ≡ Err fault
      → reading step start at_tail (text_at (grown p more ended)) ≡ Err fault
