-- The entries of rows: where the right operand held of a row, and from where on the left one had held before.
use Rattle.std.specs.Prelude.{ℕ, ◌-◌, Bool, ◌&&◌, nat_le, List}
use Rattle.std.specs.List.{list_any, filter}
use Rattle.mfotl_model.specs.Intervals.{in_interval}
use Rattle.mfotl_model.specs.declared.interval.Interval.{Interval}
use Rattle.until_rows.specs.declared.entries.Entry.{Entry}

-- whether an entry meets UNTIL at the position i, whose time is x
abbrev pub meets : Interval → ℕ → ℕ → Entry → Bool
meets interval i x e = nat_le e.start i && nat_le i e.place && in_interval interval (e.ts - x)

-- whether it stands at that position or behind it, and as late as the interval asks at least
abbrev pub is_far : Interval → ℕ → ℕ → Entry → Bool
is_far interval i x e = nat_le i e.place && nat_le interval.lo (e.ts - x)

-- whether some entry meets UNTIL there
abbrev pub met_by : Interval → ℕ → ℕ → List Entry → Bool
met_by interval i x entries = list_any (meets interval i x) entries

-- the entries that stand at a position from next on
unfoldable pub from_place : ℕ → List Entry → List Entry
from_place next entries = filter (λ e. nat_le next e.place) entries
