-- What calls of the reader of change scripts return, beside what the definitions say.
use Rattle.std.specs.Prelude.{◌≡◌, Result, Ok, Err}
use Rattle.slice_strategy.specs.declared.change.ChangeFault.{ChangeFault}
use Rattle.slice_strategy.specs.declared.change.ChangeFault.TheVariants.{Strategy as Within}
use Rattle.slice_strategy.specs.declared.fault.StrategyFault.TheVariants.{Memory}

-- the fault is the one due; want of memory may come at any time
abbrev pub Fails : {Y : Type 0} → ChangeFault → Result Y ChangeFault → Type 0
Fails (Within Memory) due = Unit {0}
Fails fault due = due ≡ Err fault

-- what was returned, seen by `view`, is what is due, want of memory aside
abbrev pub Gives : {X Y : Type 0} → (X → Y) → Result X ChangeFault → Result Y ChangeFault → Type 0
Gives view (Ok x) due = due ≡ Ok (view x)
Gives view (Err fault) due = Fails fault due
