-- How many workers and changes there may be.
use Rattle.std.specs.Prelude.{ℕ}

-- the workers of a strategy
abbrev pub max_workers : ℕ
max_workers = 64

-- the changes of a script
abbrev pub max_changes : ℕ
max_changes = 4096
