-- What stands for a row in a map: the row itself, or the integer that it consists of.
use Rattle.std.specs.Prelude.{◌≡◌, ℤ, Bool, true, false, List, [], ◌∷◌, map, refl}
use Rattle.std.specs.BTreeMap.{is_at}
use Rattle.std.specs.Ordering.{int_cmp, int_eq, is_eq, ordering_then}
use Rattle.std.specs.declared.cmp.Ordering.{Ordering}
use Rattle.std.specs.declared.cmp.Ordering.TheVariants.{Less, Equal, Greater}
use Rattle.mfotl_model.specs.Values.{row_cmp}
use Rattle.mfotl_model.specs.declared.value.Value.{Value}
use Rattle.mfotl_model.specs.declared.value.Value.TheVariants.{Int, Text}

-- the row of an integer
abbrev pub one_int : ℤ → List Value
one_int n = Int n ∷ []

-- whether a row is one of one integer
abbrev pub is_int : List Value → Bool
is_int [] = false
is_int (Int n ∷ []) = true
is_int (Int n ∷ w ∷ ws) = false
is_int (Text t ∷ ws) = false

-- the row that a row stands for
abbrev pub itself : List Value → List Value
itself row = row

-- what is kept for keys, each by the row that its key stands for
abbrev pub by_rows : {K X : Type 0} → (K → List Value) → List (K × X) → List (List Value × X)
by_rows row_of entries = map (λ e. (row_of e.0, e.1)) entries

-- an order decides where what comes behind it is equal
then_equal : (o : Ordering) → is_eq (ordering_then o Equal) ≡ is_eq o
then_equal Less = refl
then_equal Equal = refl
then_equal Greater = refl

-- rows of one integer are equal exactly where the integers are
pub same_ints : (n m : ℤ) → is_at (row_cmp (one_int n)) (one_int m) ≡ int_eq n m
same_ints n m = then_equal (int_cmp n m)
