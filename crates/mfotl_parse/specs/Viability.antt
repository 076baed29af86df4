-- Where the grammar alone can go on, whatever rules a token breaks. Tokens are viable where some
-- continuation of them is accepted.
use Rattle.std.specs.Prelude.{◌≡◌, ◌↔◌, ℕ, Bool, true, false, IsTrue, List, [], ◌∷◌, ◌++◌, Option, Some, None, Ok, Err}
use Rattle.mfotl_lex.specs.declared.fault.LexFault.{LexFault}
use Rattle.mfotl_lex.specs.FirstFault as layer
use Rattle.mfotl_lex.specs.FirstFault.{Tail, run}
use Rattle.mfotl_lex.specs.Lexemes.{Lexeme}
use Rattle.mfotl_sig.specs.Preds.{PredOf}
use Rattle.mfotl_parse.specs.declared.fault.PolicyFault.{PolicyFault}
use Rattle.mfotl_parse.specs.declared.fault.PolicyFault.TheVariants.{Syntax}
use Rattle.mfotl_parse.specs.Transitions.{Transition}
use Rattle.mfotl_parse.specs.Reading.{PolicyOf, transition, step, is_closed, at_tail, reading}
use Rattle.mfotl_parse.specs.Reduction.{reduce}
use Rattle.mfotl_parse.specs.States.{Frame, Stage, Partial, AfterOperand, nothing_read}

-- what follows, where the grammar goes on
abbrev pub if_moved : Option Transition → (Partial → Bool) → Bool
if_moved None test = false
if_moved (Some m) test = test m.next

-- an operand was read, and nothing else is open
abbrev pub is_whole : Stage → List Frame → Bool
is_whole (AfterOperand f) stack = is_closed (reduce 0 f stack).stack
is_whole _ stack = false

-- with these tokens behind it the text is whole
unfoldable pub accepts : List PredOf → List Lexeme → Partial → Bool
accepts sig [] p = is_whole p.now p.context.stack
accepts sig (t ∷ ts) p = if_moved (transition sig p t) (accepts sig ts)

-- the grammar goes on with each of these tokens
unfoldable pub goes_through : List PredOf → List Lexeme → Partial → Bool
goes_through sig [] p = true
goes_through sig (t ∷ ts) p = if_moved (transition sig p t) (goes_through sig ts)

-- some continuation is accepted
abbrev pub IsViable : List PredOf → List Lexeme → Type 0
IsViable sig ts = layer.IsViable (λ all. IsTrue (accepts sig all nothing_read)) ts

-- what the reader says of viable tokens and of the first fault
pub record FirstFaults : Type 0 where
  -- tokens are viable exactly where the grammar goes on with each of them
  pub viable : (sig : List PredOf) (ts : List Lexeme) → IsTrue (goes_through sig ts nothing_read) ↔ IsViable sig ts
  -- behind tokens that show no fault, a token shows Syntax exactly where it ends viability
  pub syntax : (sig : List PredOf) (ts : List Lexeme) (p : Partial) (t : Lexeme) → run (step sig) ts nothing_read ≡ Ok p
      → (step sig p t ≡ Err (Syntax t.at)) ↔ (IsViable sig (ts ++ t ∷ []) → ⊥)
  -- the first fault that tokens show stays, whatever stands behind them
  pub stays : (sig : List PredOf) (tail : Tail LexFault) (ts more : List Lexeme) (fault : PolicyFault)
      → run (step sig) ts nothing_read ≡ Err fault
      → layer.reading (step sig) nothing_read at_tail (record { list = ts ++ more; tail = tail }) ≡ Err fault
  -- a text has one answer: a policy or a fault
  pub one : (sig : List PredOf) (bytes : List ℕ) (policy : PolicyOf) (fault : PolicyFault)
      → reading bytes sig ≡ Ok policy → reading bytes sig ≡ Err fault → ⊥
