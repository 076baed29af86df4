-- Entries of a strategy, as clauses see them.
use Rattle.std.specs.Prelude.{ℕ, ◌<◌, ◌≤◌, List, map, Option, Some, None}
use Rattle.mfotl_model.specs.Strategies.{Entry as EntryOf, Strategy, strategy_part, workers_of}
use Rattle.mfotl_model.specs.Strategies.Entry.{Uncut as UncutOf, Hash as HashOf, Cut as CutOf}
use Rattle.mfotl_model.specs.declared.value.Value.{Value}
use Rattle.slice_strategy.specs.declared.entry.Entry.{Entry}
use Rattle.slice_strategy.specs.declared.entry.Entry.TheVariants.{Uncut, Hash, Cut}
use Rattle.slice_strategy.specs.Limits.{max_workers}

-- an entry without where its cuts lie in memory
abbrev pub entry_of : Entry → EntryOf
entry_of Uncut = UncutOf
entry_of (Hash count) = HashOf count
entry_of (Cut cuts) = CutOf cuts.items

-- the same of entries
abbrev pub entries_of : List Entry → Strategy
entries_of entries = map entry_of entries

-- the part that a value of a variable is in; a variable that isn't free is never cut
abbrev pub part_by : Option EntryOf → Value → ℕ
part_by None a = 0
part_by (Some e) a = strategy_part e a

-- at least one worker, and not more than there may be
pub record HasWorkers (strategy : Strategy) : Type 0 where
  pub some : 0 < workers_of strategy
  pub few : workers_of strategy ≤ max_workers
