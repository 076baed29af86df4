-- Tests of all items of a list: in another order, of one more, and by a weaker test.
use Rattle.std.proofs.Common.{◌≡◌, Bool, true, List, [], ◌∷◌, ◌++◌, refl, arith}
use Rattle.std.proofs.{lemmas.Grind.common_steps, lemmas.List.Folds.list_all-append}
use Rattle.std.proofs.{lemmas.List.Sorted.list_any-IsPermutation}
use Rattle.std.specs.{List.list_all, List.Sorted.IsPermutation}
use Rattle.mfotl_model.proofs.LogicLemmas.{all_any}

-- what all pass, all pass in any order
pub all_moved : {X : Type 0} (p : X → Bool) (xs ys : List X) → IsPermutation xs ys → list_all p ys ≡ list_all p xs
all_moved p xs ys moved = grind (arith, all_any, list_any-IsPermutation)

-- and one more
pub all_push : {X : Type 0} (p : X → Bool) (xs : List X) (x : X) → list_all p xs ≡ true → p x ≡ true
    → list_all p (xs ++ x ∷ []) ≡ true
all_push p xs x all last = grind (arith, common_steps, list_all-append)

-- and by a weaker test
pub all_weaker : {X : Type 0} (p q : X → Bool) (xs : List X) → ((x : X) → p x ≡ true → q x ≡ true)
    → list_all p xs ≡ true → list_all q xs ≡ true
all_weaker p q [] gives all = refl
all_weaker p q (x ∷ xs) gives all = grind (arith, common_steps, gives x, all_weaker p q xs gives)
