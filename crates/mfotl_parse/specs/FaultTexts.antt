-- How a fault is printed: `Lex BadByte at 4`, `SortClash at 16`.
use Rattle.std.specs.Prelude.{ℕ, List, ◌++◌, codes}
use Rattle.std.specs.Fmt.{decimal}
use Rattle.mfotl_lex.specs.FaultTexts as lex
use Rattle.mfotl_parse.specs.declared.fault.PolicyFault.{PolicyFault}
use Rattle.mfotl_parse.specs.declared.fault.PolicyFault.TheVariants.{Lex, Syntax, EmptyInterval, BoundRange}
use Rattle.mfotl_parse.specs.declared.fault.PolicyFault.TheVariants.{UnknownPredicate, WrongArity, SortClash}
use Rattle.mfotl_parse.specs.declared.fault.PolicyFault.TheVariants.{TooManyVariables, TooDeep, TooManyNodes, Memory}

-- the text of a fault
abbrev pub fault_text : PolicyFault → List ℕ
fault_text (Lex fault) = codes "Lex " ++ lex.fault_text fault
fault_text (Syntax at) = codes "Syntax at " ++ decimal at
fault_text (EmptyInterval at) = codes "EmptyInterval at " ++ decimal at
fault_text (BoundRange at) = codes "BoundRange at " ++ decimal at
fault_text (UnknownPredicate at) = codes "UnknownPredicate at " ++ decimal at
fault_text (WrongArity at) = codes "WrongArity at " ++ decimal at
fault_text (SortClash at) = codes "SortClash at " ++ decimal at
fault_text (TooManyVariables at) = codes "TooManyVariables at " ++ decimal at
fault_text (TooDeep at) = codes "TooDeep at " ++ decimal at
fault_text (TooManyNodes at) = codes "TooManyNodes at " ++ decimal at
fault_text Memory = codes "Memory"

-- the text of a fault without an offset of its own
abbrev pub unplaced_text : PolicyFault → List ℕ
unplaced_text (Lex fault) = codes "Lex " ++ lex.fault_text fault
unplaced_text _ = codes "Memory"
