-- One step of a walk over two lists, by which of their first ones comes first.
use Rattle.std.proofs.Common.{◌≡◌, ◌++◌, List, [], ◌∷◌, map, Option, IfNone, option_to_list, refl, arith}
use Rattle.std.specs.declared.{cmp.Ordering.Ordering, cmp.Ordering.TheVariants.Less, cmp.Ordering.TheVariants.Greater}
use Rattle.state_merge.specs.Pairs.{IsStep, by_order, order_of_firsts, walked}

module _ {I X : Type 0} (order : I → I → Ordering) (told : I → X) (both : I → I → X) where
  abbrev walk : List I → List I → List X
  walk xs ys = walked order told both xs ys

  abbrev Step : List I → List I → Option I → List I → List I → Type 0
  Step xs ys next xs2 ys2 = IsStep order told both xs ys next xs2 ys2

  -- the walk over two lists that both have a first one, by the order of these
  chosen_by : (x y : I) (xs ys : List I) (o : Ordering) → order x y ≡ o → walk (x ∷ xs) (y ∷ ys)
      ≡ by_order o (told x ∷ walk xs (y ∷ ys)) (both x y ∷ walk xs ys) (told y ∷ walk (x ∷ xs) ys)
  chosen_by x y xs ys o e = cc

  alone : (xs : List I) → walk xs [] ≡ map told xs
  alone [] = refl
  alone (x ∷ xs) = refl

  by_less : (next : Option I) (xs ys : List I) → IfNone next (option_to_list next ++ xs ≡ [])
      → order_of_firsts order (option_to_list next ++ xs) ys ≡ Less → Step (option_to_list next ++ xs) ys next xs ys
  by_less next xs ys none e = grind (arith, alone, chosen_by)

  by_greater : (next : Option I) (xs ys : List I) → IfNone next (option_to_list next ++ ys ≡ [])
      → order_of_firsts order xs (option_to_list next ++ ys) ≡ Greater → Step xs (option_to_list next ++ ys) next xs ys
  by_greater next xs ys none e = grind arith

  -- the first one of the first list is taken
  pub steps_in_first : (next : Option I) (xs xs2 ys : List I) → xs ≡ option_to_list next ++ xs2
      → IfNone next (xs ≡ []) → order_of_firsts order xs ys ≡ Less → Step xs ys next xs2 ys
  steps_in_first next xs xs2 ys is none e = rw is (by_less next xs2 ys (rw is at none) (rw is at e))

  -- that of the second list
  pub steps_in_second : (next : Option I) (xs ys ys2 : List I) → ys ≡ option_to_list next ++ ys2
      → IfNone next (ys ≡ []) → order_of_firsts order xs ys ≡ Greater → Step xs ys next xs ys2
  steps_in_second next xs ys ys2 is none e = rw is (by_greater next xs ys2 (rw is at none) (rw is at e))
