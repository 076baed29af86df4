-- Rows are put into a slot, or behind all slots.
use Rattle.std.proofs.Common.{◌≡◌, ℕ, zero, suc, ◌<◌, ◌≤◌, List, [], ◌∷◌, ◌++◌, length, map, Option, refl, ap, arith}
use Rattle.std.proofs.Common.{slice_index_or, slice_set}
use Rattle.verdict_merge.specs.declared.arrived.Arrived.{Arrived}
use Rattle.verdict_merge.specs.Slots.{held, put_in}

-- an empty slot more makes no difference, where Rows come behind it or into it
pub put_past : (i : ℕ) (a : Arrived) (slots : List (List Arrived)) → length slots ≤ i
    → put_in i a (slots ++ [] ∷ []) ≡ put_in i a slots
put_past zero a [] h = refl
put_past zero a (all ∷ more) h = absurd (omega (arith, h))
put_past (suc i) a [] h = refl
put_past (suc i) a (all ∷ more) h = ap (λ rest. all ∷ rest) (put_past i a more (omega (arith, h)))

-- Rows behind all slots
pub put_behind : (i : ℕ) (a : Arrived) (slots : List (List Arrived)) → length slots ≡ i
    → put_in i a slots ≡ slots ++ (a ∷ []) ∷ []
put_behind zero a [] h = refl
put_behind zero a (all ∷ more) h = absurd (omega (arith, h))
put_behind (suc i) a [] h = absurd (omega (arith, h))
put_behind (suc i) a (all ∷ more) h = ap (λ rest. all ∷ rest) (put_behind i a more (omega (arith, h)))

-- Rows in a slot
pub put_at : (i : ℕ) (a : Arrived) (slots : List (Option (List Arrived))) (default slot : Option (List Arrived))
    → i < length slots → held slot ≡ held (slice_index_or slots i default) ++ a ∷ []
    → map held (slice_set slots i slot) ≡ put_in i a (map held slots)
put_at i a [] default slot low grown = absurd (omega (arith, low))
put_at zero a (one ∷ more) default slot low grown = ap (λ all. all ∷ map held more) grown
put_at (suc i) a (one ∷ more) default slot low grown =
    ap (λ rest. held one ∷ rest) (put_at i a more default slot (omega (arith, low)) grown)
