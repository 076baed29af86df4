-- What calls return, beside what the definitions say.
use Rattle.std.specs.Prelude.{◌≡◌, Result, Ok, Err}
use Rattle.slice_strategy.specs.declared.fault.StrategyFault.{StrategyFault}
use Rattle.slice_strategy.specs.declared.fault.StrategyFault.TheVariants.{Memory}
use Rattle.slice_strategy.specs.declared.stage.Stage.{Stage}
use Rattle.slice_strategy.specs.declared.stage.Stage.TheVariants as stage
use Rattle.slice_strategy.specs.Entries.{entry_of}
use Rattle.slice_strategy.specs.Reading.{StageOf, Between, Named, Chosen, Divided, Counting, Cutting, Behind}

-- a stage without where its cuts lie in memory
abbrev pub stage_of : Stage → StageOf
stage_of stage.Between = Between
stage_of (stage.Named head) = Named head
stage_of (stage.Chosen head) = Chosen head
stage_of (stage.Divided head m) = Divided head m
stage_of (stage.Counting head) = Counting head
stage_of (stage.Cutting head cuts) = Cutting head cuts.items
stage_of (stage.Behind head entry) = Behind head (entry_of entry)

-- the fault is the one due; want of memory may come at any time
abbrev pub Fails : {Y : Type 0} → StrategyFault → Result Y StrategyFault → Type 0
Fails Memory due = Unit {0}
Fails fault due = due ≡ Err fault

-- what was returned, seen by `view`, is what is due, want of memory aside
abbrev pub Gives : {X Y : Type 0} → (X → Y) → Result X StrategyFault → Result Y StrategyFault → Type 0
Gives view (Ok x) due = due ≡ Ok (view x)
Gives view (Err fault) due = Fails fault due
