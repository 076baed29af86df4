-- How a fault is printed: `CutSort at 2`.
use Rattle.std.specs.Prelude.{ℕ, List, ◌++◌, codes}
use Rattle.std.specs.Fmt.{decimal}
use Rattle.slice_strategy.specs.declared.change.ChangeFault.{ChangeFault}
use Rattle.slice_strategy.specs.declared.change.ChangeFault.TheVariants.{Strategy, FallingChange, TooManyChanges}
use Rattle.slice_strategy.specs.declared.fault.StrategyFault.{StrategyFault}
use Rattle.slice_strategy.specs.declared.fault.StrategyFault.TheVariants.{Syntax, UnknownVariable, RepeatedVariable}
use Rattle.slice_strategy.specs.declared.fault.StrategyFault.TheVariants.{BadCount, CutSort, CutOrder, TooManyWorkers}
use Rattle.slice_strategy.specs.declared.fault.StrategyFault.TheVariants.{Memory}

-- the name, and the offset
abbrev pub fault_text : StrategyFault → List ℕ
fault_text (Syntax at) = codes "Syntax at " ++ decimal at
fault_text (UnknownVariable at) = codes "UnknownVariable at " ++ decimal at
fault_text (RepeatedVariable at) = codes "RepeatedVariable at " ++ decimal at
fault_text (BadCount at) = codes "BadCount at " ++ decimal at
fault_text (CutSort at) = codes "CutSort at " ++ decimal at
fault_text (CutOrder at) = codes "CutOrder at " ++ decimal at
fault_text (TooManyWorkers at) = codes "TooManyWorkers at " ++ decimal at
fault_text Memory = codes "Memory"

-- the same of a change script's
abbrev pub change_fault_text : ChangeFault → List ℕ
change_fault_text (Strategy fault) = fault_text fault
change_fault_text (FallingChange at) = codes "FallingChange at " ++ decimal at
change_fault_text (TooManyChanges at) = codes "TooManyChanges at " ++ decimal at
