-- Reading token by token, as the loop does: what is still to come says the same as the whole text.
use Rattle.std.proofs.Common.{◌≡◌, ℕ, true, List, length, Option, Some, Result, Ok, Err, arith}
use Rattle.mfotl_lex.specs.declared.{fault.LexFault.LexFault, kind.Mode.TheVariants.Plain}
use Rattle.mfotl_lex.specs.FirstFault as layer
use Rattle.mfotl_lex.specs.{FirstFault.◌>>=◌, Places.Place, Places.beginning, Texts.tail_of, Texts.reading_on}
use Rattle.mfotl_lex.specs.Lexemes.{Lexeme, next_token, after}
use Rattle.mfotl_lex.proofs.Sequence.{after_shorter}
use Rattle.mfotl_lex.proofs.TextLaws.{on_step, on_stop, on_none, on_fault, begins}
use Rattle.mfotl_sig.specs.declared.fault.SigFault.{SigFault}
use Rattle.mfotl_sig.specs.Answers.{Fails}
use Rattle.mfotl_sig.specs.Reading.{Partial, step, at_end, at_tail, unbroken, nothing_read, tokens_read, reading}

-- behind the tokens before this place the text reads on like this
abbrev pub Leads : List ℕ → Partial → Place → Partial → Type 0
Leads bytes first place p = reading_on step unbroken (tail_of true (length bytes)) place p ≡ tokens_read bytes first

pub fails_on : {A B : Type 0} (fault : SigFault) (x : Result A SigFault) (y : Result B SigFault)
    → (x ≡ Err fault → y ≡ Err fault) → Fails fault x → Fails fault y
fails_on fault x y stays given = grind arith

module _ (bytes : List ℕ) (first : Partial) where
  pub begins_so : Leads bytes first (beginning Plain bytes) first
  unfolding tokens_read
  begins_so = begins step first unbroken Plain bytes

  module _ (place : Place) (p : Partial) (leads : Leads bytes first place p) where
    pub goes_on : (q : Partial) (t : Lexeme) → next_token place ≡ Ok (Some t) → step p t ≡ Ok q
        → Leads bytes first (after place) q
    goes_on q t next stepped = cc (on_step step unbroken (tail_of true (length bytes)) place p q t next stepped)

    pub step_fails : (t : Lexeme) (fault : SigFault) → next_token place ≡ Ok (Some t) → Fails fault (step p t)
        → Fails fault (tokens_read bytes first)
    step_fails t fault next failed = grind (arith, fails_on, on_stop)

-- what a loop over the tokens needs
pub ruleset token_by_token = (begins_so, goes_on, step_fails, on_fault, on_none, after_shorter)

behind : (end : ℕ) (lexical : Option LexFault) (r : Result Partial SigFault)
    → (r >>= λ p. at_tail (tail_of true end lexical) p)
    ≡ ((r >>= λ p. unbroken (tail_of true end lexical) p) >>= λ p. at_end end p.done p.draft)
behind end lexical r = grind arith

-- behind all tokens stands the end
pub end_behind : (bytes : List ℕ)
    → reading bytes ≡ (tokens_read bytes nothing_read >>= λ p. at_end (length bytes) p.done p.draft)
unfolding reading tokens_read layer.reading
end_behind bytes = simp (behind)

pub ends_fail : (bytes : List ℕ) (fault : SigFault) → Fails fault (tokens_read bytes nothing_read)
    → Fails fault (reading bytes)
ends_fail bytes fault failed = grind (arith, fails_on, end_behind)
