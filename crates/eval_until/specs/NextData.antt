-- The plain data of NEXT, beside what its state is made with.
use Rattle.std.specs.Prelude.{ℕ, ◌+◌, ◌≤◌, ◌^◌, List, length}
use Rattle.mfotl_model.specs.declared.interval.Interval.{Interval}
use Rattle.relations.specs.Pushed.{AreOver}
use Rattle.eval_until.specs.NextView.{NextOf}
use Rattle.eval_until.specs.declared.recalled.NextData.{NextData}

-- the state that the data describes, for an operand over these columns, where `next` are the times of the
-- positions from the next one on; the data is right where this state is
abbrev pub next_of : Interval → List ℕ → List ℕ → NextData → NextOf
next_of interval columns next kept =
    record {
      interval = interval;
      columns = columns;
      pulled = kept.pulled;
      times = next;
      started = kept.started;
      tables = kept.tables.items;
    }

-- the rule of the data: there are few enough positions, and the tables are over the operand's columns
pub record NextRule (columns next : List ℕ) (kept : NextData) : Type 0 where
  pub few : kept.pulled + length next ≤ 2 ^ 63
  pub over : AreOver columns kept.tables.items
