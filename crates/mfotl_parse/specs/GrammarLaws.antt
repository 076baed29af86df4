-- What the grammar says of every text, and the reader.
use Rattle.std.specs.Prelude.{◌≡◌, ◌↔◌, ◌⊎◌, ℕ, IsTrue, List, [], ◌∷◌, ◌++◌, Option, Ok, Err}
use Rattle.mfotl_lex.specs.declared.fault.LexFault.{LexFault}
use Rattle.mfotl_lex.specs.FirstFault as layer
use Rattle.mfotl_lex.specs.FirstFault.{run}
use Rattle.mfotl_lex.specs.Lexemes.{Lexeme}
use Rattle.mfotl_lex.specs.Texts.{StaysShown as StaysShownBy}
use Rattle.mfotl_sig.specs.Preds.{PredOf}
use Rattle.mfotl_parse.specs.declared.fault.PolicyFault.{PolicyFault}
use Rattle.mfotl_parse.specs.declared.fault.PolicyFault.TheVariants.{Lex, Syntax}
use Rattle.mfotl_parse.specs.Causes.{IsCause, IsLast}
use Rattle.mfotl_parse.specs.Grammar.{Tree, Fits, spelling, IsFormula, BeginsFormula}
use Rattle.mfotl_parse.specs.Meanings.{all_names, IsValue}
use Rattle.mfotl_parse.specs.Mentions.{sort_clash}
use Rattle.mfotl_parse.specs.Reading.{step, ended_at, at_tail, text_of, reading}
use Rattle.mfotl_parse.specs.Shows.{Showing, silent, shown_by}
use Rattle.mfotl_parse.specs.States.{Partial, nothing_read}
use Rattle.mfotl_parse.specs.SymbolTable.{uneven_pair, clash_or_pair}
use Rattle.mfotl_parse.specs.Viability.{accepts}

-- the reader takes exactly the formulas of the grammar, the other rules apart
abbrev pub AcceptedExactly : Type 0
AcceptedExactly = (sig : List PredOf) (ts : List Lexeme) → IsTrue (accepts sig ts nothing_read) ↔ IsFormula ts

-- what is spelled and keeps the rules is read
abbrev pub SpelledIsRead : Type 0
SpelledIsRead =
    (sig : List PredOf) → layer.ValueIsRead (λ bytes. reading bytes sig) (λ bytes. IsValue bytes sig)

-- what is read is spelled, and keeps the rules
abbrev pub ReadIsSpelled : Type 0
ReadIsSpelled =
    (sig : List PredOf) → layer.ReadIsValue (λ bytes. reading bytes sig) (λ bytes. IsValue bytes sig)

-- each text has exactly one of a value and a first fault
abbrev pub OneAnswer : Type 0
OneAnswer = (sig : List PredOf) → layer.OneAnswer (λ bytes. reading bytes sig) (λ bytes. IsValue bytes sig)

-- tokens that show no fault begin a formula; behind them a token shows Syntax exactly where they begin none
-- with it, and the text's end exactly where they are none
pub record SyntaxExactly : Type 0 where
  pub sound : (sig : List PredOf) (ts : List Lexeme) (p : Partial) → run (step sig) ts nothing_read ≡ Ok p
      → BeginsFormula ts
  pub token : (sig : List PredOf) (ts : List Lexeme) (p : Partial) (t : Lexeme) → run (step sig) ts nothing_read ≡ Ok p
      → (step sig p t ≡ Err (Syntax t.at)) ↔ (BeginsFormula (ts ++ t ∷ []) → ⊥)
  pub end : (sig : List PredOf) (ts : List Lexeme) (p : Partial) (at : ℕ) → run (step sig) ts nothing_read ≡ Ok p
      → (ended_at p.now p.context at ≡ Err (Syntax at)) ↔ (IsFormula ts → ⊥)

-- the reader goes on behind the tokens
abbrev pub AreRead : List PredOf → List Lexeme → Type 0
AreRead sig ts = (read : Partial) × (run (step sig) ts nothing_read ≡ Ok read)

-- the tokens begin a formula, and none of them shows a fault
pub record IsSilent (sig : List PredOf) (ts : List Lexeme) : Type 0 where
  pub tree : Tree
  pub fits : Fits 1 tree
  pub more : List Lexeme
  pub spelled : spelling tree ≡ ts ++ more
  pub later : Showing
  pub shown : shown_by sig tree ≡ silent ts ++ later

-- the reader goes on exactly behind tokens that show no fault
abbrev pub SilentAreRead : Type 0
SilentAreRead = (sig : List PredOf) (ts : List Lexeme) → AreRead sig ts ↔ IsSilent sig ts

-- it goes on exactly behind tokens of which none is the cause of a fault
abbrev pub ExactSoundness : Type 0
ExactSoundness =
    (sig : List PredOf) → layer.ExactSoundness (step sig) nothing_read at_tail BeginsFormula (IsCause sig) (IsLast sig)

-- where the reader's symbol table tells that sorts clash
abbrev pub table_clash : List PredOf → Tree → Option ℕ
table_clash sig tree = clash_or_pair (all_names sig tree).clash (uneven_pair (all_names sig tree))

-- it tells that where the places in the text do
abbrev pub ClashesAgree : Type 0
ClashesAgree = (sig : List PredOf) (tree : Tree) → table_clash sig tree ≡ sort_clash sig tree

-- the fault is the first that the text shows: the tokens before it begin a formula, and show none
abbrev pub IsShown : List ℕ → List PredOf → PolicyFault → Type 0
IsShown bytes sig fault = layer.IsFirst BeginsFormula (IsCause sig) (IsLast sig) (text_of bytes) fault

-- the reader tells this fault of the text
abbrev pub IsFirstFault : List ℕ → List PredOf → PolicyFault → Type 0
IsFirstFault bytes sig fault = reading bytes sig ≡ Err fault

-- each fault is the first one exactly where it is shown
abbrev pub EachFaultIsShown : Type 0
EachFaultIsShown =
    (bytes : List ℕ) (sig : List PredOf) (fault : PolicyFault) → (IsFirstFault bytes sig fault)
    ↔ IsShown bytes sig fault

-- Syntax is shown by the first token that ends viability, or by the text's end, and only there
abbrev pub ExactSyntax : Type 0
ExactSyntax =
    (bytes : List ℕ) (sig : List PredOf) (at : ℕ) → (IsFirstFault bytes sig (Syntax at))
    ↔ (layer.ShownByToken BeginsFormula (IsCause sig) (text_of bytes).list (Syntax at)
    ⊎ layer.ShownByTail BeginsFormula (IsCause sig) (IsLast sig) (text_of bytes) (Syntax at))

-- a fault of the lexer is shown behind all whole tokens, where they show none, and only there
abbrev pub ExactLex : Type 0
ExactLex =
    (bytes : List ℕ) (sig : List PredOf) (fault : LexFault) → (IsFirstFault bytes sig (Lex fault))
    ↔ layer.ShownByTail BeginsFormula (IsCause sig) (IsLast sig) (text_of bytes) (Lex fault)

-- what bytes whose end isn't told show is shown by any that begin with them
abbrev pub StaysShown : Type 0
StaysShown = (sig : List PredOf) → StaysShownBy (step sig) nothing_read at_tail
