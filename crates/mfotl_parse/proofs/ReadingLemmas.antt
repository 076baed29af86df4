-- Reading token by token, as the loop does: what is still to come says the same as the whole text.
use Rattle.std.proofs.Common.{◌≡◌, ◌<◌, ℕ, true, List, length, Option, Some, None, Result, Ok, Err, refl, arith}
use Rattle.mfotl_lex.specs.declared.{fault.LexFault.LexFault, kind.Mode.TheVariants.Plain}
use Rattle.mfotl_lex.specs.Lexemes.{Lexeme, next_token, after}
use Rattle.mfotl_lex.specs.{Places.Place, Places.beginning, Texts.tail_of}
use Rattle.mfotl_lex.specs.Texts as texts
use Rattle.mfotl_lex.proofs.{FirstFaultLaws.bind_ok, Sequence.after_shorter}
use Rattle.mfotl_lex.proofs.TextLaws.{on_step, on_stop, on_none, on_fault, begins}
use Rattle.mfotl_sig.specs.Preds.{PredOf}
use Rattle.mfotl_parse.specs.declared.fault.PolicyFault.{PolicyFault}
use Rattle.mfotl_parse.specs.Reading.{step, with_token, ended_at, at_tail, reading_on}
use Rattle.mfotl_parse.specs.{States.Partial, Views.Fails}

-- behind the tokens before this place the text reads on like this
abbrev pub Leads : List PredOf → List ℕ → Partial → Place → Partial → Type 0
Leads sig bytes first place p =
    texts.reading_on (step sig) at_tail (tail_of true (length bytes)) place p ≡ reading_on sig bytes first

fails_on : {A B : Type 0} (fault : PolicyFault) (x : Result A PolicyFault) (y : Result B PolicyFault)
    → (x ≡ Err fault → y ≡ Err fault) → Fails fault x → Fails fault y
fails_on fault x y stays given = grind arith

module _ (sig : List PredOf) (bytes : List ℕ) (first : Partial) where
  pub begins_so : Leads sig bytes first (beginning Plain bytes) first
  unfolding reading_on
  begins_so = begins (step sig) first at_tail Plain bytes

  module _ (place : Place) (p : Partial) (leads : Leads sig bytes first place p) where
    -- the next token was taken
    record Taken (q : Partial) : Type 0 where
      token : Lexeme
      is : next_token place ≡ Ok (Some token)
      stepped : step sig p token ≡ Ok q

    taken_by : (q : Partial) (next : Result (Option Lexeme) LexFault) → next_token place ≡ next
        → with_token sig p next ≡ Ok (Some q) → Taken q
    taken_by q next is e = grind arith

    pub goes_on : (q : Partial) → with_token sig p (next_token place) ≡ Ok (Some q)
        → Leads sig bytes first (after place) q
    goes_on q e = grind (arith, taken_by, on_step)

    pub shorter : (q : Partial) → with_token sig p (next_token place) ≡ Ok (Some q)
        → length (after place).rest < length place.rest
    shorter q e = let t = taken_by q (next_token place) refl e in after_shorter place t.token t.is

    ends_by : (next : Result (Option Lexeme) LexFault) → next_token place ≡ next → with_token sig p next ≡ Ok None
        → reading_on sig bytes first ≡ ended_at p.now p.context (length bytes)
    ends_by next is e = grind (arith, bind_ok, on_none)

    pub ends : with_token sig p (next_token place) ≡ Ok None
        → reading_on sig bytes first ≡ ended_at p.now p.context (length bytes)
    ends e = ends_by (next_token place) refl e

    stops_by : (fault : PolicyFault) (next : Result (Option Lexeme) LexFault) → next_token place ≡ next
        → with_token sig p next ≡ Err fault → reading_on sig bytes first ≡ Err fault
    stops_by fault next is e = grind (arith, on_stop, on_fault)

    pub fails : (fault : PolicyFault) → Fails fault (with_token sig p (next_token place))
        → Fails fault (reading_on sig bytes first)
    fails fault failed = search (fails_on, stops_by)
