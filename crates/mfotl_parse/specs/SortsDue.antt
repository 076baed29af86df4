-- The sorts of an atom's arguments that are due, the next one in front.
use Rattle.std.specs.Prelude.{Bool, true, false, List, [], ◌∷◌}
use Rattle.mfotl_model.specs.declared.policy.Sort.{Sort}
use Rattle.mfotl_model.specs.declared.policy.Sort.TheVariants as sorts

-- whether no argument is due
abbrev pub is_empty : List Sort → Bool
is_empty [] = true
is_empty (sort ∷ rest) = false

-- the sort of the argument that is due
abbrev pub due_sort : List Sort → Sort
due_sort [] = sorts.Int
due_sort (sort ∷ rest) = sort

-- the sorts of the arguments behind the one that is due
abbrev pub after_due : List Sort → List Sort
after_due [] = []
after_due (sort ∷ rest) = rest
