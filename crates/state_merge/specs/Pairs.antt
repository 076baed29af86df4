-- Two lists of things that stand by their keys, walked side by side.
use Rattle.std.specs.Prelude.{◌≡◌, ◌+◌, ◌≤◌, min, IfNone, Option, List, [], ◌∷◌, ◌++◌, length, map, option_to_list}
use Rattle.std.specs.List.Sorted.{IsStrictlySortedBy}
use Rattle.std.specs.Ordering.{nat_cmp}
use Rattle.std.specs.declared.cmp.Ordering.{Ordering}
use Rattle.std.specs.declared.cmp.Ordering.TheVariants.{Less, Equal, Greater}
use Rattle.until_rows.specs.declared.recalled.Mark.{Mark}

-- the first, second or third value, by an ordering
abbrev pub by_order : {A : Type 0} → Ordering → A → A → A → A
by_order Less a b c = a
by_order Equal a b c = b
by_order Greater a b c = c

-- what there is to tell of each one that a walk over two lists meets: of the one with the lesser key, or of two with
-- one key together
abbrev pub walked : {I X : Type 0} → (I → I → Ordering) → (I → X) → (I → I → X) → List I → List I → List X
walked order told both [] ys = map told ys
walked order told both (x ∷ xs) [] = map told (x ∷ xs)
walked order told both (x ∷ xs) (y ∷ ys) =
    by_order (order x y) (told x ∷ walked order told both xs (y ∷ ys)) (both x y ∷ walked order told both xs ys)
    (told y ∷ walked order told both (x ∷ xs) ys)

-- how the first ones of two lists stand, where one that stands alone comes first
abbrev pub order_of_firsts : {I : Type 0} → (I → I → Ordering) → List I → List I → Ordering
order_of_firsts order [] [] = Less
order_of_firsts order [] (y ∷ ys) = Greater
order_of_firsts order (x ∷ xs) [] = Less
order_of_firsts order (x ∷ xs) (y ∷ ys) = order x y

-- the first one that a walk over two lists meets, if there is one, and what it leaves of the lists
pub record IsStep {I X : Type 0} (order : I → I → Ordering) (told : I → X) (both : I → I → X) (xs ys : List I)
    (next : Option I) (xs2 ys2 : List I) : Type 0 where
  pub walk : walked order told both xs ys
      ≡ map told (option_to_list next) ++ walked order told both xs2 ys2
  pub end : IfNone next ((xs2 ≡ []) × (ys2 ≡ []))
  pub fewer : length xs2 + length ys2 + length (option_to_list next) ≤ length xs + length ys

-- the places of marks ascend
abbrev pub MarksAscend : List Mark → Type 0
MarksAscend marks = IsStrictlySortedBy nat_cmp (map (λ (m : Mark). m.place) marks)

-- of two marks for one place the one with the lesser start
abbrev pub lesser_mark : Mark → Mark → Mark
lesser_mark m n = record { place = n.place; start = min m.start n.start }
