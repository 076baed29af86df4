-- How much the words may ask for.
use Rattle.std.specs.Prelude.{ℕ, ◌-◌, ◌^◌}

-- the most threads beside the one that reads and writes
abbrev pub max_threads : ℕ
max_threads = 64

-- so many threads serve the workers where the words say nothing of it, and those of a demo
abbrev pub default_threads : ℕ
default_threads = 4

-- the greatest seed of a demo
abbrev pub max_seed : ℕ
max_seed = 2 ^ 64 - 1
