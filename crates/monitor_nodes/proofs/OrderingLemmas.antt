-- Tables with their columns in another order.
use Rattle.std.proofs.Common.{Result, IfOk, OnOk, Option, Some, option_to_list, ◌≡◌, List, ◌∷◌, ◌++◌, ap, ◌∙◌, arith}

-- what was taken from the front of a list
pub taken_one : {X : Type 0} (r : Option X) (x : X) (all rest : List X) → r ≡ Some x → all ≡ option_to_list r ++ rest
    → all ≡ x ∷ rest
taken_one r x all rest is e = e ∙ ap (λ o. option_to_list o ++ rest) is

pub ok_both : {X E : Type 0} (r : Result X E) (P : X → Type 0) (Q : Type 0) (R : X → Type 0) → ((x : X) → P x → Q → R x)
    → IfOk r P → OnOk r Q → IfOk r R
ok_both r P Q R h p q = grind arith
