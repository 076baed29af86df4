-- Reading a change script token by token, as the loop does: what is still to come says the same as the whole text.
use Rattle.std.proofs.Common.{◌≡◌, ◌∙◌, ℕ, true, List, length, Some, None, Result, Ok, Err, sym, arith}
use Rattle.mfotl_lex.specs.declared.{fault.LexFault.LexFault, kind.Mode.TheVariants.Plain}
use Rattle.mfotl_lex.specs.Lexemes.{Lexeme, next_token, after}
use Rattle.mfotl_lex.specs.{Places.Place, Places.beginning, Texts.tail_of, Texts.reading_on}
use Rattle.mfotl_lex.proofs.TextLaws.{on_step, on_stop, on_none, on_fault, begins}
use Rattle.mfotl_model.specs.declared.policy.Var.{Var}
use Rattle.slice_strategy.specs.declared.change.ChangeFault.{ChangeFault}
use Rattle.slice_strategy.specs.ChangeAnswers.{Fails}
use Rattle.slice_strategy.specs.ChangeReading.{ScriptOf, step, at_tail, ends, breaks, nothing_read, reading}

-- behind the tokens before this place the text reads on like this
abbrev pub Leads : List Var → List ℕ → Place → ScriptOf → Type 0
Leads vars bytes place s = reading_on (step vars) at_tail (tail_of true (length bytes)) place s ≡ reading vars bytes

pub fails_on : {A B : Type 0} (fault : ChangeFault) (x : Result A ChangeFault) (y : Result B ChangeFault)
    → (x ≡ Err fault → y ≡ Err fault) → Fails fault x → Fails fault y
fails_on fault x y stays given = grind arith

module _ (vars : List Var) (bytes : List ℕ) where
  pub begins_so : Leads vars bytes (beginning Plain bytes) nothing_read
  unfolding reading
  begins_so = begins (step vars) nothing_read at_tail Plain bytes

  module _ (place : Place) (s : ScriptOf) (leads : Leads vars bytes place s) where
    pub goes_on : (q : ScriptOf) (t : Lexeme) → next_token place ≡ Ok (Some t) → step vars s t ≡ Ok q
        → Leads vars bytes (after place) q
    goes_on q t next stepped = cc (on_step (step vars) at_tail (tail_of true (length bytes)) place s q t next stepped)

    pub step_fails : (t : Lexeme) (fault : ChangeFault) → next_token place ≡ Ok (Some t)
        → Fails fault (step vars s t) → Fails fault (reading vars bytes)
    step_fails t fault next failed = grind (arith, fails_on, on_stop)

    pub lex_fails : (fault : LexFault) → next_token place ≡ Err fault
        → reading vars bytes ≡ breaks fault.at s.done s.current s.before
    lex_fails fault next = cc (on_fault (step vars) at_tail (tail_of true (length bytes)) place s fault next)

    pub all_read : next_token place ≡ Ok None → reading vars bytes ≡ ends (length bytes) s.done s.current s.before
    all_read next = sym leads ∙ on_none (step vars) at_tail (tail_of true (length bytes)) place s next
