-- How large a signature may be.
use Rattle.std.specs.Prelude.{ℕ}

-- the predicates of a signature
abbrev pub max_predicates : ℕ
max_predicates = 256

-- the arguments of a predicate
abbrev pub max_arguments : ℕ
max_arguments = 8
