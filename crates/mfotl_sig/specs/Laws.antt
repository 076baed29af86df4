-- What a reader of signatures may rely on, said of every text.
use Rattle.std.specs.Prelude.{◌≡◌, ◌↔◌, ℕ, List, Err}
use Rattle.mfotl_lex.specs.FirstFault as layer
use Rattle.mfotl_lex.specs.Texts.{StaysShown as StaysShownBy}
use Rattle.mfotl_sig.specs.declared.fault.SigFault.{SigFault}
use Rattle.mfotl_sig.specs.Causes.{IsCause, IsLast}
use Rattle.mfotl_sig.specs.Grammar.{IsViable}
use Rattle.mfotl_sig.specs.Reading.{step, nothing_read, at_tail, reading}
use Rattle.mfotl_sig.specs.Rules.{text_of, IsValue}

-- what is read is spelled, and keeps the rules
abbrev pub ReadIsSpelled : Type 0
ReadIsSpelled = layer.ReadIsValue reading IsValue

-- what is spelled and keeps the rules is read
abbrev pub SpelledIsRead : Type 0
SpelledIsRead = layer.ValueIsRead reading IsValue

-- each text has exactly one of a value and a first fault
abbrev pub OneAnswer : Type 0
OneAnswer = layer.OneAnswer reading IsValue

-- the fault is the first that the text shows: tokens before it are viable, and show none
abbrev pub IsShown : List ℕ → SigFault → Type 0
IsShown bytes fault = layer.IsFirst IsViable IsCause IsLast (text_of bytes) fault

-- each fault is told exactly where it is the first that is shown
abbrev pub ExactFaults : Type 0
ExactFaults = (bytes : List ℕ) (fault : SigFault) → (reading bytes ≡ Err fault) ↔ IsShown bytes fault

-- the reader goes over tokens exactly where none of them shows a fault
abbrev pub ExactSoundness : Type 0
ExactSoundness = layer.ExactSoundness step nothing_read at_tail IsViable IsCause IsLast

-- what bytes whose end isn't told show is shown by any that begin with them
abbrev pub StaysShown : Type 0
StaysShown = StaysShownBy step nothing_read at_tail
