-- Searches for a key among keys in order: for its first place, and for the place past its last one.
use Rattle.std.specs.Prelude.{Bool, cond}
use Rattle.std.specs.Ordering.{is_le, is_lt}
use Rattle.std.specs.declared.cmp.Ordering.{Ordering}

-- whether what stands in this order to the key is before the place: less, or, where `past`, not greater
abbrev pub before : Bool → Ordering → Bool
before past order = cond past (is_le order) (is_lt order)
