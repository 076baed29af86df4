-- What an answer says of the first fault.
use Rattle.std.specs.Prelude.{◌≡◌, ◌≢◌, Option, Some, None, Result, Ok, Err}
use Rattle.monitorable.specs.declared.fault.FragmentFault.{FragmentFault}
use Rattle.monitorable.specs.declared.fault.FragmentFault.TheVariants.{Memory}

-- Ok says that there is no fault, and an error is the first one; want of memory alone says nothing
abbrev pub Judges : {T : Type 0} → Result T FragmentFault → Option FragmentFault → Type 0
Judges (Ok value) found = found ≡ None
Judges (Err fault) found = fault ≢ Memory → found ≡ Some fault
