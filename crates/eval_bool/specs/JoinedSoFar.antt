-- What was joined of some tables, with the last of them where it still waits.
use Rattle.std.specs.Prelude.{ℕ, Bool, ◌&&◌, ◌||◌}
use Rattle.mfotl_model.specs.FreeVariables.{among}
use Rattle.mfotl_model.specs.Satisfaction.{Valuation}
use Rattle.eval_bool.specs.Heads.{joined_columns, joined_has}
use Rattle.eval_bool.specs.declared.combined.Joined.{Joined}

-- whether y is a column of either
abbrev pub is_joined : ℕ → Joined → Bool
is_joined y joined = among y (joined_columns joined.table) || among y (joined_columns joined.waiting)

-- whether both have the valuation's row
abbrev pub all_joined : Valuation → Joined → Bool
all_joined v joined = joined_has v joined.table && joined_has v joined.waiting
