-- What calls return, beside what the definitions say.
use Rattle.std.specs.Prelude.{◌≡◌, Result, Ok, Err}
use Rattle.mfotl_sig.specs.declared.arguments.Arguments.{Arguments}
use Rattle.mfotl_sig.specs.declared.arguments.Progress.{Progress}
use Rattle.mfotl_sig.specs.declared.arguments.Progress.TheVariants as progress
use Rattle.mfotl_sig.specs.declared.reading.Draft.{Draft}
use Rattle.mfotl_sig.specs.declared.fault.SigFault.{SigFault}
use Rattle.mfotl_sig.specs.declared.fault.SigFault.TheVariants.{Memory}
use Rattle.mfotl_sig.specs.Reading.{ArgumentsOf, ProgressOf, Open, Closed, DraftOf}

-- arguments without where they lie in memory
abbrev pub arguments_of : Arguments → ArgumentsOf
arguments_of d = record { sorts = d.sorts.items; stage = d.stage }

-- the same of what a token makes of it
abbrev pub progress_of : Progress → ProgressOf
progress_of (progress.Open d) = Open (arguments_of d)
progress_of (progress.Closed sorts) = Closed sorts.items

-- a predicate of which a part was read, the same way
abbrev pub draft_of : Draft → DraftOf
draft_of d = record { name = d.name.now; arguments = arguments_of d.arguments }

-- the fault is the one due; want of memory may come at any time
abbrev pub Fails : {Y : Type 0} → SigFault → Result Y SigFault → Type 0
Fails Memory due = Unit {0}
Fails fault due = due ≡ Err fault

-- what was returned, seen by `view`, is what is due, want of memory aside
abbrev pub Gives : {X Y : Type 0} → (X → Y) → Result X SigFault → Result Y SigFault → Type 0
Gives view (Ok x) due = due ≡ Ok (view x)
Gives view (Err fault) due = Fails fault due
