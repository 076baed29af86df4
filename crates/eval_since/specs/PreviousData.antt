-- The plain data of PREVIOUS, beside what its state is made with.
use Rattle.std.specs.Prelude.{ℕ, ◌+◌, ◌≤◌, ◌^◌, List, length}
use Rattle.mfotl_model.specs.declared.interval.Interval.{Interval}
use Rattle.relations.specs.Pushed.{AreOver}
use Rattle.eval_since.specs.PreviousView.{PrevOf}
use Rattle.eval_since.specs.declared.recalled.PrevData.{PrevData}

-- the state that the data describes, for an operand over these columns, where `past` is the time of the position
-- pulled last and `next` are those from the next one on; the data is right where this state is
abbrev pub previous_of : Interval → List ℕ → ℕ → List ℕ → PrevData → PrevOf
previous_of interval columns past next kept =
    record {
      interval = interval;
      columns = columns;
      pulled = kept.pulled;
      last = past;
      times = next;
      tables = kept.tables.items;
    }

-- the rule of the data: the tables are over the operand's columns
pub record PreviousRule (columns next : List ℕ) (kept : PrevData) : Type 0 where
  pub few : kept.pulled + length next ≤ 2 ^ 63
  pub over : AreOver columns kept.tables.items
