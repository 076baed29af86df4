-- Worked examples: the times that the entries of marks have, in full.
use Rattle.std.specs.Prelude.{◌≡◌, [], ◌∷◌}
use Rattle.until_rows.specs.Recalled.{entry_at}

-- a mark at the second of the positions from 5 on has that one's time
abbrev pub MarkHasItsTime : Type 0
MarkHasItsTime = (entry_at 5 (70 ∷ 80 ∷ []) (record { place = 6; start = 5 })).ts ≡ 80
