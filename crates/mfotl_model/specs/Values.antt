-- Values and rows in their order: integers by number, then texts by bytes; rows by their first values,
-- then by the next.
use Rattle.std.specs.Prelude.{◌≡◌, ℕ, List, refl}
use Rattle.std.specs.Cmp.{IsTotalOrder, int_cmp_total, nat_cmp_total}
use Rattle.std.specs.Cmp.Lexicographic.{slice_cmp, lists_total}
use Rattle.std.specs.declared.cmp.Ordering.{Ordering}
use Rattle.std.specs.declared.cmp.Ordering.TheVariants.{Less, Equal, Greater}
use Rattle.std.specs.Ordering.{nat_cmp, int_cmp, ordering_reverse}
use Rattle.mfotl_model.specs.declared.value.Value.{Value}
use Rattle.mfotl_model.specs.declared.value.Value.TheVariants.{Int, Text}

-- texts by their bytes
abbrev pub text_cmp : List ℕ → List ℕ → Ordering
text_cmp = slice_cmp nat_cmp

-- each integer before each text
abbrev pub value_cmp : Value → Value → Ordering
value_cmp (Int x) (Int y) = int_cmp x y
value_cmp (Int x) (Text t) = Less
value_cmp (Text s) (Int y) = Greater
value_cmp (Text s) (Text t) = text_cmp s t

-- rows by the first values that differ
abbrev pub row_cmp : List Value → List Value → Ordering
row_cmp = slice_cmp value_cmp

-- texts are in a total order, and so are values and rows
pub text_total : IsTotalOrder text_cmp
text_total = lists_total nat_cmp_total

-- a value stands to another as the other way round
value_antisymm : (x y : Value) → value_cmp x y ≡ ordering_reverse (value_cmp y x)
value_antisymm (Int x) (Int y) = int_cmp_total.antisymm x y
value_antisymm (Int x) (Text t) = refl
value_antisymm (Text s) (Int y) = refl
value_antisymm (Text s) (Text t) = text_total.antisymm s t

-- what lies below a value that lies below another lies below that
value_trans : (x y z : Value) → value_cmp x y ≡ Less → value_cmp y z ≡ Less → value_cmp x z ≡ Less
value_trans (Int x) (Int y) (Int z) h k = int_cmp_total.trans x y z h k
value_trans (Int x) (Int y) (Text z) h k = refl
value_trans (Int x) (Text y) (Int z) h k = cc
value_trans (Int x) (Text y) (Text z) h k = refl
value_trans (Text x) (Int y) z h k = cc
value_trans (Text x) (Text y) (Int z) h k = cc
value_trans (Text x) (Text y) (Text z) h k = text_total.trans x y z h k

-- equal values stand alike to each other value
value_congr : (x y z : Value) → value_cmp x y ≡ Equal → value_cmp x z ≡ value_cmp y z
value_congr (Int x) (Int y) (Int z) h = int_cmp_total.congr x y z h
value_congr (Int x) (Int y) (Text z) h = refl
value_congr (Int x) (Text y) z h = cc
value_congr (Text x) (Int y) z h = cc
value_congr (Text x) (Text y) (Int z) h = refl
value_congr (Text x) (Text y) (Text z) h = text_total.congr x y z h

-- values
pub value_total : IsTotalOrder value_cmp
value_total = record { antisymm = value_antisymm; trans = value_trans; congr = value_congr }

-- rows
pub row_total : IsTotalOrder row_cmp
row_total = lists_total value_total
