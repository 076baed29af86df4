-- Worked examples: the rows of a table that go into pieces.
use Rattle.std.specs.Prelude.{◌≡◌, ℕ, List, [], ◌∷◌, pos}
use Rattle.mfotl_model.specs.Regions.{Region, in_both, near_of}
use Rattle.mfotl_model.specs.Strategies.{Strategy}
use Rattle.mfotl_model.specs.Strategies.Entry.{Cut}
use Rattle.mfotl_model.specs.Tables.{TableOf}
use Rattle.mfotl_model.specs.declared.value.Value.{Value}
use Rattle.mfotl_model.specs.declared.value.Value.TheVariants.{Int}
use Rattle.monitor_state.specs.StateCuts.{cut_table}

-- the variable x, numbered 0, is cut at 10
abbrev pub present : Strategy
present = Cut (pos 10 ∷ []) ∷ []

-- and at 2 from the next strategy on
abbrev pub next : Strategy
next = Cut (pos 2 ∷ []) ∷ []

-- a table of x with these rows
abbrev pub of_x : List (List Value) → TableOf
of_x rows = record { columns = 0 ∷ []; rows = rows }

-- what the second worker has for a worker of the next strategy
abbrev pub shared : ℕ → Region
shared to = in_both (near_of present 1) (near_of next to)

-- The second worker has the values from 10 on. It keeps a row with 3 as well, which may be wrong, and which goes into
-- no piece, though the second worker of the next strategy has 3. The row with 12 goes to that one.
abbrev pub FarRowStays : Type 0
FarRowStays =
    (cut_table (shared 0) (of_x ((Int (pos 3) ∷ []) ∷ (Int (pos 12) ∷ []) ∷ [])) ≡ of_x [])
    × (cut_table (shared 1) (of_x ((Int (pos 3) ∷ []) ∷ (Int (pos 12) ∷ []) ∷ [])) ≡ of_x ((Int (pos 12) ∷ []) ∷ []))
