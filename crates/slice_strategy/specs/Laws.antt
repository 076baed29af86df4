-- What a reader of strategies may rely on, said of every text.
use Rattle.std.specs.Prelude.{◌≡◌, ◌↔◌, ℕ, List, Err}
use Rattle.mfotl_lex.specs.FirstFault as layer
use Rattle.mfotl_lex.specs.Texts.{StaysShown as StaysShownBy}
use Rattle.mfotl_model.specs.declared.policy.Var.{Var}
use Rattle.slice_strategy.specs.declared.fault.StrategyFault.{StrategyFault}
use Rattle.slice_strategy.specs.Causes.{IsCause, IsLast}
use Rattle.slice_strategy.specs.Grammar.{IsViable}
use Rattle.slice_strategy.specs.Reading.{step, nothing_read, at_tail, reading}
use Rattle.slice_strategy.specs.Rules.{IsValue, text_of}

-- what is read is spelled, and keeps the rules
abbrev pub ReadIsSpelled : Type 0
ReadIsSpelled = (vars : List Var) → layer.ReadIsValue (reading vars) (IsValue vars)

-- what is spelled and keeps the rules is read
abbrev pub SpelledIsRead : Type 0
SpelledIsRead = (vars : List Var) → layer.ValueIsRead (reading vars) (IsValue vars)

-- each text has exactly one of a value and a first fault
abbrev pub OneAnswer : Type 0
OneAnswer = (vars : List Var) → layer.OneAnswer (reading vars) (IsValue vars)

-- the fault is the first that the text shows: tokens before it are viable, and show none
abbrev pub IsShown : List Var → List ℕ → StrategyFault → Type 0
IsShown vars bytes fault = layer.IsFirst IsViable (IsCause vars) (IsLast vars) (text_of bytes) fault

-- each fault is told exactly where it is the first that is shown
abbrev pub ExactFaults : Type 0
ExactFaults = (vars : List Var) (bytes : List ℕ) (fault : StrategyFault)
    → (reading vars bytes ≡ Err fault) ↔ IsShown vars bytes fault

-- the reader goes over tokens exactly where none of them shows a fault
abbrev pub ExactSoundness : Type 0
ExactSoundness = (vars : List Var)
    → layer.ExactSoundness (step vars) (nothing_read vars) at_tail IsViable (IsCause vars) (IsLast vars)

-- what bytes whose end isn't told show is shown by any that begin with them
abbrev pub StaysShown : Type 0
StaysShown = (vars : List Var) → StaysShownBy (step vars) (nothing_read vars) at_tail
