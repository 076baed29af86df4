-- Worked examples: the rows that the operations give, in full.
use Rattle.std.specs.Prelude.{◌≡◌, ℕ, false, true, List, [], ◌∷◌, pos}
use Rattle.mfotl_model.specs.Tables.{TableOf}
use Rattle.mfotl_model.specs.declared.term.Comparison.{Comparison}
use Rattle.mfotl_model.specs.declared.term.Sign.TheVariants.{Greater}
use Rattle.mfotl_model.specs.declared.term.Term.TheVariants.{Var, Const}
use Rattle.mfotl_model.specs.declared.value.Value.{Value}
use Rattle.mfotl_model.specs.declared.value.Value.TheVariants.{Int}
use Rattle.relations.specs.Indexes.{IndexOf, rows_with_key}
use Rattle.relations.specs.Operations.{chosen_rows, joined_rows, projected_rows, united_rows, unmatched_rows}

-- a row of one number
abbrev pub one : ℕ → List Value
one a = Int (pos a) ∷ []

-- a row of two numbers
abbrev pub two : ℕ → ℕ → List Value
two a b = Int (pos a) ∷ one b

-- a row of three numbers
abbrev pub three : ℕ → ℕ → ℕ → List Value
three a b c = Int (pos a) ∷ two b c

-- columns x (0) and y (1) with the rows (1, 2) and (3, 4)
abbrev pub first : TableOf
first = record { columns = 0 ∷ 1 ∷ []; rows = two 1 2 ∷ two 3 4 ∷ [] }

-- columns y (1) and z (2) with the row (2, 5)
abbrev pub second : TableOf
second = record { columns = 1 ∷ 2 ∷ []; rows = two 2 5 ∷ [] }

-- column y (1) with the second's part of that row
abbrev pub key : TableOf
key = record { columns = 1 ∷ []; rows = projected_rows (1 ∷ []) second }

-- the rows that agree in y are joined
abbrev pub JoinAgreesInY : Type 0
JoinAgreesInY = joined_rows first second ≡ three 1 2 5 ∷ []

-- the row whose y is 2 is left out
abbrev pub AntijoinLeavesOut : Type 0
AntijoinLeavesOut = unmatched_rows first key ≡ two 3 4 ∷ []

-- the values of y
abbrev pub ProjectionToY : Type 0
ProjectionToY = projected_rows (1 ∷ []) first ≡ one 2 ∷ one 4 ∷ []

-- a table united with itself is itself
abbrev pub UnionWithItself : Type 0
UnionWithItself = united_rows first first ≡ first.rows

-- x is above 1
abbrev pub above_one : Comparison
above_one = record { sign = Greater; left = Var 0; right = Const (Int (pos 1)) }

-- the comparison holds of the second row alone
abbrev pub ChosenWhereItHolds : Type 0
ChosenWhereItHolds = chosen_rows above_one true first ≡ two 3 4 ∷ []

-- the comparison fails of the first row alone
abbrev pub ChosenWhereItFails : Type 0
ChosenWhereItFails = chosen_rows above_one false first ≡ two 1 2 ∷ []

-- the rows (1, 2), (3, 2) and (4, 5) by their second column
abbrev pub by_second : IndexOf
by_second = record { columns = 0 ∷ 1 ∷ []; key_columns = 1 ∷ []; rows = two 1 2 ∷ two 3 2 ∷ two 4 5 ∷ [] }

-- all rows with the key's value are found
abbrev pub KeyFindsBoth : Type 0
KeyFindsBoth = rows_with_key by_second (one 2) ≡ two 1 2 ∷ two 3 2 ∷ []

-- a key that no row has finds none
abbrev pub KeyFindsNone : Type 0
KeyFindsNone = rows_with_key by_second (one 9) ≡ []
