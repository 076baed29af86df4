-- The laws of conjunctions and of OR.
use Rattle.std.proofs.Common.{◌≡◌, ℕ, ◌+◌, true, ◌&&◌, nat_lt, List, [], ◌∷◌, length, drop, refl, ap, arith}
use Rattle.mfotl_model.specs.Tables.{TableOf}
use Rattle.relations.specs.Operations.{chosen}
use Rattle.eval_bool.specs.{JoinView.ConjunctOf.Child, JoinView.ConjunctOf.Test, Laws.NumberedOn, Laws.TestsHold}

pub tests_hold : TestsHold
tests_hold [] v = refl
tests_hold (Child columns negated ∷ conjuncts) v = tests_hold conjuncts v
tests_hold (Test c wanted ∷ conjuncts) v = ap (λ b. chosen c wanted v && b) (tests_hold conjuncts v)

one_less : (p : ℕ) (tables : List TableOf) → nat_lt 0 (length tables) ≡ true
    → p + 1 + length (drop 1 tables) ≡ p + length tables
one_less p tables some = grind arith

pub numbered_on : NumberedOn
numbered_on s due = grind arith
