-- How a fault is printed: `Lex BadByte at 4`, `Syntax at 7`.
use Rattle.std.specs.Prelude.{ℕ, List, ◌++◌, codes}
use Rattle.std.specs.Fmt.{decimal}
use Rattle.mfotl_lex.specs.FaultTexts as lex
use Rattle.mfotl_sig.specs.declared.fault.SigFault.{SigFault}
use Rattle.mfotl_sig.specs.declared.fault.SigFault.TheVariants.{Lex, Syntax, RepeatedName, UnknownSort, Arity}
use Rattle.mfotl_sig.specs.declared.fault.SigFault.TheVariants.{TooMany, Memory}

-- the name, and the offset
abbrev pub fault_text : SigFault → List ℕ
fault_text (Lex fault) = codes "Lex " ++ lex.fault_text fault
fault_text (Syntax at) = codes "Syntax at " ++ decimal at
fault_text (RepeatedName at) = codes "RepeatedName at " ++ decimal at
fault_text (UnknownSort at) = codes "UnknownSort at " ++ decimal at
fault_text (Arity at) = codes "Arity at " ++ decimal at
fault_text (TooMany at) = codes "TooMany at " ++ decimal at
fault_text Memory = codes "Memory"

-- the text of a fault without an offset of its own
abbrev pub unplaced_text : SigFault → List ℕ
unplaced_text (Lex fault) = codes "Lex " ++ lex.fault_text fault
unplaced_text _ = codes "Memory"
