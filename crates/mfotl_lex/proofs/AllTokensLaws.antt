-- The reader that takes every token owes what the layer of first faults asks.
use Rattle.std.proofs.Common.{◌≡◌, List, [], ◌∷◌, ◌++◌, Ok, Err, refl, arith}
use Rattle.std.proofs.lemmas.List.{append-nil, append_assoc}
use Rattle.std.specs.Prelude.{◌↔◌}
use Rattle.mfotl_lex.specs.declared.fault.LexFault.{LexFault}
use Rattle.mfotl_lex.specs.AllTokens.{take_token, all_taken, IsViable, IsCause, IsLast, IsValue, TokensAreTaken}
use Rattle.mfotl_lex.specs.FirstFault.{Tail, Broken, Text, run, reading, FollowsGrammar}
use Rattle.mfotl_lex.specs.Lexemes.{Lexeme}
use Rattle.mfotl_lex.proofs.FirstFaultLaws.{exact_faults, exact_soundness, one_answer}
use Rattle.mfotl_lex.proofs.TextLaws.{stays_shown}

all_read : (ts front : List Lexeme) → run take_token ts front ≡ Ok (front ++ ts)
unfolding run
all_read [] front = rw append-nil
all_read (t ∷ ts) front = rw append_assoc at (all_read ts (front ++ t ∷ []))

tail_shows : (tail : Tail LexFault) (ts : List Lexeme) (fault : LexFault)
    → (all_taken tail ts ≡ Err fault) ↔ (tail ≡ Broken fault)
tail_shows (Broken other) ts fault = grind arith
tail_shows other ts fault = (λ e. absurd cc, λ e. absurd cc)

follows : FollowsGrammar take_token [] all_taken IsViable IsCause IsLast
follows = grind (arith, tail_shows)

taken : (tail : Tail LexFault) (ts vs : List Lexeme) → all_taken tail ts ≡ Ok vs
    → ((fault : LexFault) → tail ≡ Broken fault → ⊥) × (vs ≡ ts)
taken (Broken other) ts vs e = absurd cc
taken other ts vs e = (λ fault f. absurd cc, cc)

read : (x : Text Lexeme LexFault) (vs : List Lexeme) → reading take_token [] all_taken x ≡ Ok vs → IsValue x vs
unfolding reading
read x vs e = grind (arith, taken, all_read)

whole_taken : (tail : Tail LexFault) (ts : List Lexeme) → ((fault : LexFault) → tail ≡ Broken fault → ⊥)
    → all_taken tail ts ≡ Ok ts
whole_taken (Broken fault) ts whole = absurd (whole fault refl)
whole_taken other ts whole = refl

value : (x : Text Lexeme LexFault) (vs : List Lexeme) → IsValue x vs → reading take_token [] all_taken x ≡ Ok vs
unfolding reading
value x vs v = rw (all_read x.list [], whole_taken x.tail x.list v.whole, v.value)

pub tokens_are_taken : TokensAreTaken
tokens_are_taken = record {
  exact = exact_faults take_token [] all_taken IsViable IsCause IsLast follows;
  sound = exact_soundness take_token [] all_taken IsViable IsCause IsLast follows;
  one = one_answer (reading take_token [] all_taken) IsValue read value;
  stays = stays_shown take_token [] all_taken (λ s fault e. cc);
}
