-- The bells of main and of its threads.
use Rattle.std.specs.Prelude.{ℕ, length}
use Rattle.hub_threads.specs.declared.bells.Bells.{Bells}

-- how many threads have a bell
abbrev pub bell_count : Bells → ℕ
bell_count bells = length bells.threads.items
