-- What a call returned, against what a definition gives: want of memory says nothing.
use Rattle.std.specs.Prelude.{◌≡◌, Result, Ok, Err}
use Rattle.log_reader.specs.declared.fault.LogFault.{LogFault}
use Rattle.log_reader.specs.declared.fault.LogFault.TheVariants.{Memory}

-- a fault is the one that the definition gives
abbrev pub Fails : {Y : Type 0} → LogFault → Result Y LogFault → Type 0
Fails Memory given = Unit {0}
Fails fault given = given ≡ Err fault

-- a value, seen by `view`, is the one that the definition gives
abbrev pub Gives : {X Y : Type 0} → (X → Y) → Result X LogFault → Result Y LogFault → Type 0
Gives view (Ok x) given = given ≡ Ok (view x)
Gives view (Err fault) given = Fails fault given

-- a state moves on as the definition says; a fault that it gives leaves the state as it is
abbrev pub Stays : {S : Type 0} → S → S → LogFault → Result S LogFault → Type 0
Stays old new Memory given = Unit {0}
Stays old new fault given = (given ≡ Err fault) × (new ≡ old)

-- a state moves on as the definition says
abbrev pub StateMoves : {S U : Type 0} → S → S → Result U LogFault → Result S LogFault → Type 0
StateMoves old new (Ok _) given = given ≡ Ok new
StateMoves old new (Err fault) given = Stays old new fault given
