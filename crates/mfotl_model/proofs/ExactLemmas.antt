-- Tables that are exact for a region.
use Rattle.std.proofs.Common.{◌≡◌, ℕ, ◌+◌, [], ◌∷◌, length, subst, arith}
use Rattle.mfotl_model.specs.{Exact.AllExact, Laws.ExactBehind, Laws.ExactWithin}

pub exact_within : ExactWithin
exact_within view smaller f i table less exact = grind arith

pub exact_behind : ExactBehind
exact_behind view f i [] more exact behind = grind arith
exact_behind view f i (table ∷ tables) more exact behind =
    let at : i + length (table ∷ tables) ≡ i + 1 + length tables = omega arith in
    let Rest : ℕ → Type 0 = λ n. AllExact view f n more in
    (exact.0, exact_behind view f (i + 1) tables more exact.1 (subst Rest at behind))
