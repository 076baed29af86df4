-- What a reader of change scripts may rely on, said of every text.
use Rattle.std.specs.Prelude.{◌≡◌, ◌↔◌, ℕ, List, Err}
use Rattle.mfotl_lex.specs.FirstFault as layer
use Rattle.mfotl_lex.specs.Texts.{StaysShown as StaysShownBy}
use Rattle.mfotl_model.specs.declared.policy.Var.{Var}
use Rattle.slice_strategy.specs.declared.change.ChangeFault.{ChangeFault}
use Rattle.slice_strategy.specs.ChangeCauses.{IsCause, IsLast}
use Rattle.slice_strategy.specs.ChangeGrammar.{IsViableScript}
use Rattle.slice_strategy.specs.ChangeReading.{step, nothing_read, at_tail, reading}
use Rattle.slice_strategy.specs.ChangeRules.{IsValue}
use Rattle.slice_strategy.specs.Rules.{text_of}

-- each script has exactly one of a list of changes, which it spells, and a first fault
abbrev pub OneAnswer : Type 0
OneAnswer = (vars : List Var) → layer.OneAnswer (reading vars) (IsValue vars)

-- the fault is the first that the text shows: tokens before it are viable, and show none
abbrev pub IsShown : List Var → List ℕ → ChangeFault → Type 0
IsShown vars bytes fault = layer.IsFirst IsViableScript (IsCause vars) (IsLast vars) (text_of bytes) fault

-- each fault is told exactly where it is the first that is shown
abbrev pub ExactFaults : Type 0
ExactFaults = (vars : List Var) (bytes : List ℕ) (fault : ChangeFault)
    → (reading vars bytes ≡ Err fault) ↔ IsShown vars bytes fault

-- the reader goes over tokens exactly where none of them shows a fault
abbrev pub ExactSoundness : Type 0
ExactSoundness = (vars : List Var)
    → layer.ExactSoundness (step vars) nothing_read at_tail IsViableScript (IsCause vars) (IsLast vars)

-- what bytes whose end isn't told show is shown by any that begin with them
abbrev pub StaysShown : Type 0
StaysShown = (vars : List Var) → StaysShownBy (step vars) nothing_read at_tail
