-- The time-points that a log completes before its first fault, in the grammar's words.
use Rattle.std.specs.Prelude.{◌≡◌, ◌⊎◌, List, [], ◌∷◌, ◌++◌, true, Some}
use Rattle.mfotl_lex.specs.FirstFault.{Tail, End, Text}
use Rattle.mfotl_lex.specs.Lexemes.{Lexeme}
use Rattle.mfotl_model.specs.declared.event.TimePoint.{TimePoint}
use Rattle.mfotl_sig.specs.Preds.{PredOf}
use Rattle.log_reader.specs.declared.fault.LogFault.{LogFault}
use Rattle.log_reader.specs.declared.limits.Limits.{Limits}
use Rattle.log_reader.specs.Grammar.{PointText, Spells, symbols_of}
use Rattle.log_reader.specs.Rules.{log_value}
use Rattle.log_reader.specs.Symbols.{Symbol, ends_point}

-- no more of a time-point comes in front of these symbols: an `@` or a `;` stands there, or the end
abbrev pub Closes : List Symbol → Tail LogFault → Type 0
Closes [] (End n) = Unit {0}
Closes [] tail = ⊥
Closes (x ∷ xs) tail = ends_point x ≡ true

-- a front of the tokens spells whole time-points, the last of which is completed, and stands for these
pub record Completes (sig : List PredOf) (limits : Limits) (x : Text Lexeme LogFault)
    (points : List TimePoint) : Type 0 where
  pub front : List Lexeme
  pub back : List Lexeme
  pub log : List PointText
  pub parts : x.list ≡ front ++ back
  pub spells : Spells (symbols_of front) log
  pub value : log_value sig limits 0 limits.points log ≡ Some points
  pub closed : (front ≡ []) ⊎ Closes (symbols_of back) x.tail

-- the longest such front stands for these: what any other stands for is a beginning of them
pub record CompletesAll (sig : List PredOf) (limits : Limits) (x : Text Lexeme LogFault)
    (points : List TimePoint) : Type 0 where
  pub completes : Completes sig limits x points
  pub longest : (others : List TimePoint) → Completes sig limits x others
      → (more : List TimePoint) × (points ≡ others ++ more)
