-- Tables that are pushed, counted.
use Rattle.std.proofs.Common.{◌<◌, ◌≤◌, ◌^◌, ℕ, ◌+◌, List, [], ◌∷◌, ◌++◌, length, arith}
use Rattle.std.proofs.lemmas.List.{length-append}
use Rattle.mfotl_model.specs.Tables.{TableOf}

pub one_more : (pulled : ℕ) (tables : List TableOf) (t : TableOf) → pulled + length tables < 2 ^ 63
    → pulled + length (tables ++ t ∷ []) ≤ 2 ^ 63
one_more pulled tables t few = omega (arith, length-append tables (t ∷ []))
