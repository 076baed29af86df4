-- What holds anyway holds at an error.
use Rattle.std.proofs.Common.{arith, OnErr}
use Rattle.std.specs.Prelude.{Result}

pub on_err : {T E : Type 0} (r : Result T E) (P : Type 0) → P → OnErr r P
on_err r P p = grind arith
