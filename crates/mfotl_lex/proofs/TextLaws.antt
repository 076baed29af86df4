-- How a reader goes over bytes token by token, and that what is shown stays shown.
use Rattle.std.proofs.Common.{◌≡◌, ℕ, ◌+◌, Bool, true, false, List, ◌++◌, length, Option, Some, None, Result, Ok, Err}
use Rattle.std.proofs.Common.{refl, ap, ◌∙◌, arith}
use Rattle.mfotl_lex.specs.declared.{fault.LexFault.LexFault, kind.Mode.Mode}
use Rattle.mfotl_lex.specs.FirstFault.{◌>>=◌, Tail, More, run, reading}
use Rattle.mfotl_lex.specs.{Growing.joined_at, Places.Place, Places.beginning}
use Rattle.mfotl_lex.specs.Lexemes.{Lexeme, Tokens, next_token, after}
use Rattle.mfotl_lex.specs.Texts.{tail_of, text_of, reading_on, StaysShown}
use Rattle.mfotl_lex.proofs.{FirstFaultLaws.bind_assoc, FirstFaultLaws.fault_stays, GrowingLemmas.more_bytes}
use Rattle.mfotl_lex.proofs.Sequence.{tokens_token, tokens_none, tokens_fault}

module _ {S L E V : Type 0} (step : S → Lexeme → Result S E) (at_tail : Tail L → S → Result V E)
    (tail : Option LexFault → Tail L) where
  -- the next token, and what is behind it
  pub on_token : (p : Place) (s : S) (t : Lexeme) → next_token p ≡ Ok (Some t)
      → reading_on step at_tail tail p s ≡ (step s t >>= λ q. reading_on step at_tail tail (after p) q)
  unfolding reading_on run
  on_token p s t e = grind (arith, tokens_token, bind_assoc)

  -- no token
  pub on_none : (p : Place) (s : S) → next_token p ≡ Ok None → reading_on step at_tail tail p s ≡ at_tail (tail None) s
  unfolding reading_on run
  on_none p s e = rw (tokens_none p e)

  -- a fault of the lexer
  pub on_fault : (p : Place) (s : S) (fault : LexFault) → next_token p ≡ Err fault
      → reading_on step at_tail tail p s ≡ at_tail (tail (Some fault)) s
  unfolding reading_on run
  on_fault p s fault e = rw (tokens_fault p fault e)

  -- a token that shows no fault, and one that does
  pub on_step : (p : Place) (s q : S) (t : Lexeme) → next_token p ≡ Ok (Some t) → step s t ≡ Ok q
      → reading_on step at_tail tail p s ≡ reading_on step at_tail tail (after p) q
  on_step p s q t e stepped = on_token p s t e ∙ ap (λ r. r >>= λ x. reading_on step at_tail tail (after p) x) stepped

  pub on_stop : (p : Place) (s : S) (t : Lexeme) (fault : E) → next_token p ≡ Ok (Some t) → step s t ≡ Err fault
      → reading_on step at_tail tail p s ≡ Err fault
  on_stop p s t fault e stop = on_token p s t e ∙ ap (λ r. r >>= λ x. reading_on step at_tail tail (after p) x) stop

module _ {S E V : Type 0} (step : S → Lexeme → Result S E) (start : S) (at_tail : Tail LexFault → S → Result V E) where
  -- reading all the bytes begins at their beginning
  pub begins : (mode : Mode) (bytes : List ℕ)
      → reading_on step at_tail (tail_of true (length bytes)) (beginning mode bytes) start
      ≡ reading step start at_tail (text_of mode bytes)
  unfolding reading_on reading
  begins mode bytes = refl

  shown_before : (ts more : List Lexeme) (tail : Tail LexFault) (fault : E)
      → ((s : S) → at_tail More s ≡ Err fault → ⊥) → (r : Result S E) → run step ts start ≡ r
      → (r >>= λ s. at_tail More s) ≡ Err fault → (run step (ts ++ more) start >>= λ s. at_tail tail s) ≡ Err fault
  shown_before ts more tail fault none (Ok s) e f = absurd (none s f)
  shown_before ts more tail fault none (Err other) e f = grind (arith, fault_stays)

  stays : (list : List Lexeme) (more : Tokens) (end end' : ℕ) (ended : Bool) (fault : E)
      → ((s : S) → at_tail More s ≡ Err fault → ⊥) → (lexical : Option LexFault)
      → (run step list start >>= λ s. at_tail (tail_of false end lexical) s) ≡ Err fault
      → (run step (joined_at lexical list more).list start
      >>= λ s. at_tail (tail_of ended end' (joined_at lexical list more).fault) s) ≡ Err fault
  stays list more end end' ended fault none (Some lexical) e = e
  stays list more end end' ended fault none None e = grind (arith, shown_before)

  pub stays_shown : ((s : S) (fault : E) → at_tail More s ≡ Err fault → ⊥) → StaysShown step start at_tail
  unfolding reading
  stays_shown none p more ended fault untold e = grind (arith, more_bytes p more ended untold, stays)
