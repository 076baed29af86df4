-- Results of which two facts are known.
use Rattle.std.proofs.Common.{Result, IfOk, arith}

-- what follows from two facts of a value that a result has
pub ok_two : {X E : Type 0} (r : Result X E) (P Q R : X → Type 0) → ((x : X) → P x → Q x → R x) → IfOk r P → IfOk r Q
    → IfOk r R
ok_two r P Q R h p q = grind arith
