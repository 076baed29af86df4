-- The limits of this crate.
use Rattle.std.specs.Prelude.{ℕ}

-- the most nodes that a monitored normal form has
abbrev pub node_limit : ℕ
node_limit = 1024
