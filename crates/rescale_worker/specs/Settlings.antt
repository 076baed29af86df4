-- The tables of newly settled positions, and what a worker says of them.
use Rattle.std.specs.Prelude.{◌≡◌, ℕ, ◌+◌, ◌-◌, List, [], ◌∷◌, length, slice_index}
use Rattle.mfotl_model.specs.Strategies.{Strategy}
use Rattle.mfotl_model.specs.Tables.{TableOf}
use Rattle.monitor_state.specs.Stands.{StateOf}
use Rattle.relations.specs.Tables.{IsTable}
use Rattle.rescale_worker.specs.Workers.{owned_by}
use Rattle.rescale_worker.specs.declared.item.Out.{Out}
use Rattle.rescale_worker.specs.declared.item.Out.TheVariants.{Rows as OfRows}
use Rattle.rescale_worker.specs.declared.settled.Settled.{Settled}

-- the tables with their positions, from i on, and their timestamps
abbrev pub all_settled : StateOf → ℕ → List TableOf → List Settled
all_settled state i [] = []
all_settled state i (table ∷ tables) =
    record { point = i; ts = slice_index state.times (i - state.first); table = table }
    ∷ all_settled state (i + 1) tables

-- the table has so many columns
abbrev pub HasWidth : ℕ → Settled → Type 0
HasWidth n one = length one.table.columns ≡ n

-- the table is one: its rows ascend, over columns that differ
abbrev pub IsTabled : Settled → Type 0
IsTabled one = IsTable one.table.columns one.table.rows

-- what a worker says of a position, from its table
abbrev pub row_out : Strategy → ℕ → ℕ → Settled → Out
row_out s k g one =
    OfRows (record { point = one.point; ts = one.ts; generation = g; worker = k; rows = owned_by s k one.table.rows })
