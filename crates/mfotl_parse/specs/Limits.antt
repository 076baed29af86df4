-- How large a policy may be.
use Rattle.std.specs.Prelude.{ℕ, ◌^◌}

-- how many levels may be open at once
abbrev pub max_levels : ℕ
max_levels = 64

-- the nodes of a formula
abbrev pub max_nodes : ℕ
max_nodes = 4096

-- the free variables; bound variables are numbered from there on
abbrev pub max_free : ℕ
max_free = 8

-- the longest bound of an interval, in seconds
abbrev pub max_bound : ℕ
max_bound = 2 ^ 62
