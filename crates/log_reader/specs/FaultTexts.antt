-- How a fault is printed: `Lex BadByte at 4`, `FallingTime 9 5 at 15`.
use Rattle.std.specs.Prelude.{ℕ, List, ◌++◌, codes}
use Rattle.std.specs.Fmt.{decimal}
use Rattle.mfotl_lex.specs.FaultTexts as lex
use Rattle.log_reader.specs.declared.fault.LogFault.{LogFault}
use Rattle.log_reader.specs.declared.fault.LogFault.TheVariants.{Lex, Syntax, UnknownPredicate, WrongArity, WrongSort}
use Rattle.log_reader.specs.declared.fault.LogFault.TheVariants.{IntRange, TimestampRange, FallingTime, TooManyEvents}
use Rattle.log_reader.specs.declared.fault.LogFault.TheVariants.{TooManyPoints, TooLong, Memory}

-- what is printed of a fault: most have a name and an offset
abbrev pub fault_text : LogFault → List ℕ
fault_text (Lex fault) = codes "Lex " ++ lex.fault_text fault
fault_text (Syntax at) = codes "Syntax at " ++ decimal at
fault_text (UnknownPredicate at) = codes "UnknownPredicate at " ++ decimal at
fault_text (WrongArity at) = codes "WrongArity at " ++ decimal at
fault_text (WrongSort at) = codes "WrongSort at " ++ decimal at
fault_text (IntRange at) = codes "IntRange at " ++ decimal at
fault_text (TimestampRange at) = codes "TimestampRange at " ++ decimal at
fault_text (FallingTime before now at) =
    codes "FallingTime " ++ decimal before ++ codes " " ++ decimal now ++ codes " at " ++ decimal at
fault_text (TooManyEvents at) = codes "TooManyEvents at " ++ decimal at
fault_text (TooManyPoints at) = codes "TooManyPoints at " ++ decimal at
fault_text (TooLong at) = codes "TooLong at " ++ decimal at
fault_text Memory = codes "Memory"

-- those that are printed otherwise
abbrev pub IsApart : LogFault → Type 0
IsApart (Lex fault) = Unit {0}
IsApart (FallingTime before now at) = Unit {0}
IsApart Memory = Unit {0}
IsApart _ = ⊥
