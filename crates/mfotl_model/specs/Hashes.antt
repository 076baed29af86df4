-- What texts, values and rows write into a hasher, so that maps find a row by its hash.
use Rattle.std.specs.Prelude.{◌≡◌, ℕ, true, List, [], ◌∷◌, refl}
use Rattle.std.proofs.Common.{ap}
use Rattle.std.specs.FinMap.{IsAntisymmetric, nat_cmp-IsAntisymmetric, int_cmp-IsAntisymmetric}
use Rattle.std.specs.FinMap.{slice_cmp-IsAntisymmetric}
use Rattle.std.specs.Hash.{i64}
use Rattle.std.specs.List.{flat_map}
use Rattle.std.specs.Ordering.{eq_by_cmp, is_eq}
use Rattle.std.specs.declared.cmp.Ordering.{Ordering}
use Rattle.std.specs.declared.cmp.Ordering.TheVariants.{Less, Equal, Greater}
use Rattle.mfotl_model.specs.Values.{text_cmp, value_cmp, row_cmp}
use Rattle.mfotl_model.specs.declared.value.Value.{Value}
use Rattle.mfotl_model.specs.declared.value.Value.TheVariants.{Int, Text}

-- the bytes of a text, at once
abbrev pub text_writes : List ℕ → List (List ℕ)
text_writes bytes = bytes ∷ []

-- an integer as an integer, a text as a text
abbrev pub value_writes : Value → List (List ℕ)
value_writes (Int x) = i64 x
value_writes (Text t) = text_writes t

-- a row value by value
abbrev pub row_writes : List Value → List (List ℕ)
row_writes row = flat_map value_writes row

-- texts that compare as equal are one, and so are values and rows
text_exact : IsAntisymmetric text_cmp
text_exact = slice_cmp-IsAntisymmetric nat_cmp-IsAntisymmetric

-- values
pub value_exact : IsAntisymmetric value_cmp
value_exact (Int x) (Int y) h = ap Int (int_cmp-IsAntisymmetric x y h)
value_exact (Int x) (Text t) h = cc
value_exact (Text s) (Int y) h = cc
value_exact (Text s) (Text t) h = ap Text (text_exact s t h)

-- rows
pub row_exact : IsAntisymmetric row_cmp
row_exact = slice_cmp-IsAntisymmetric value_exact

-- an order finds two equal
is_equal : (o : Ordering) → is_eq o ≡ true → o ≡ Equal
is_equal Less e = cc
is_equal Equal e = refl
is_equal Greater e = cc

-- texts that are equal have the same writes, and so have values and rows
pub texts_alike : (x y : List ℕ) → eq_by_cmp text_cmp x y ≡ true → text_writes x ≡ text_writes y
texts_alike x y e = ap text_writes (text_exact x y (is_equal (text_cmp x y) e))

-- values
pub values_alike : (x y : Value) → eq_by_cmp value_cmp x y ≡ true → value_writes x ≡ value_writes y
values_alike x y e = ap value_writes (value_exact x y (is_equal (value_cmp x y) e))

-- rows
pub rows_alike : (x y : List Value) → eq_by_cmp row_cmp x y ≡ true → row_writes x ≡ row_writes y
rows_alike x y e = ap row_writes (row_exact x y (is_equal (row_cmp x y) e))
