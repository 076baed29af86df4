-- Reading token by token, as the loop does: what is still to come says the same as the whole text.
use Rattle.std.proofs.Common.{◌≡◌, ◌∙◌, ℕ, true, List, length, Some, None, Result, Ok, Err, sym, arith}
use Rattle.mfotl_lex.specs.declared.{fault.LexFault.LexFault, kind.Mode.TheVariants.Plain}
use Rattle.mfotl_lex.specs.Lexemes.{Lexeme, next_token, after}
use Rattle.mfotl_lex.specs.{Places.Place, Places.beginning, Texts.tail_of, Texts.reading_on}
use Rattle.mfotl_lex.proofs.TextLaws as texts
use Rattle.mfotl_lex.proofs.TextLaws.{on_step, on_stop, on_none, on_fault, begins}
use Rattle.mfotl_model.specs.declared.policy.Var.{Var}
use Rattle.slice_strategy.specs.declared.fault.StrategyFault.{StrategyFault}
use Rattle.slice_strategy.specs.{Answers.Fails, Laws.StaysShown}
use Rattle.slice_strategy.specs.Reading.{Partial, step, at_end, at_tail, broken_at, ended, nothing_read, reading}

-- behind the tokens before this place the text reads on like this
abbrev pub Leads : List Var → List ℕ → Place → Partial → Type 0
Leads vars bytes place p = reading_on (step vars) at_tail (tail_of true (length bytes)) place p ≡ reading vars bytes

pub fails_on : {A B : Type 0} (fault : StrategyFault) (x : Result A StrategyFault) (y : Result B StrategyFault)
    → (x ≡ Err fault → y ≡ Err fault) → Fails fault x → Fails fault y
fails_on fault x y stays given = grind arith

-- where the lexer has a fault an entry may be behind which there are too many workers
pub broken_in : (p : Partial) (at : ℕ) (fault : StrategyFault) → Fails fault (ended p.entries p.stage)
    → Fails fault (broken_at p at)
broken_in p at fault failed = fails_on fault (ended p.entries p.stage) (broken_at p at) (λ e. rw e) failed

module _ (vars : List Var) (bytes : List ℕ) where
  pub begins_so : Leads vars bytes (beginning Plain bytes) (nothing_read vars)
  unfolding reading
  begins_so = begins (step vars) (nothing_read vars) at_tail Plain bytes

  module _ (place : Place) (p : Partial) (leads : Leads vars bytes place p) where
    pub goes_on : (q : Partial) (t : Lexeme) → next_token place ≡ Ok (Some t) → step vars p t ≡ Ok q
        → Leads vars bytes (after place) q
    goes_on q t next stepped = cc (on_step (step vars) at_tail (tail_of true (length bytes)) place p q t next stepped)

    pub step_fails : (t : Lexeme) (fault : StrategyFault) → next_token place ≡ Ok (Some t)
        → Fails fault (step vars p t) → Fails fault (reading vars bytes)
    step_fails t fault next failed = grind (arith, fails_on, on_stop)

    pub lex_fails : (fault : LexFault) → next_token place ≡ Err fault → reading vars bytes ≡ broken_at p fault.at
    lex_fails fault next = cc (on_fault (step vars) at_tail (tail_of true (length bytes)) place p fault next)

    pub all_read : next_token place ≡ Ok None → reading vars bytes ≡ at_end (length bytes) p
    all_read next = sym leads ∙ on_none (step vars) at_tail (tail_of true (length bytes)) place p next

pub stays_shown : StaysShown
stays_shown vars = texts.stays_shown (step vars) (nothing_read vars) at_tail (λ p fault e. absurd cc)
