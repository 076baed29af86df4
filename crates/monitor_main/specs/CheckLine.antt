-- The line for a policy that can be monitored: its free variables and their sorts.
use Rattle.std.specs.Prelude.{ℕ, List, [], ◌∷◌, ◌++◌, codes}
use Rattle.mfotl_model.specs.declared.policy.Sort.{Sort}
use Rattle.mfotl_model.specs.declared.policy.Sort.TheVariants.{Int, Text}
use Rattle.mfotl_model.specs.declared.policy.Var.{Var}

-- the name of a sort in a signature
abbrev pub sort_name : Sort → List ℕ
sort_name Int = codes "int"
sort_name Text = codes "string"

-- a variable and its sort
abbrev pub column : Var → List ℕ
column v = v.name ++ codes ":" ++ sort_name v.sort

-- the columns, with a comma before each
abbrev pub more_columns : List Var → List ℕ
more_columns [] = []
more_columns (v ∷ vs) = codes "," ++ column v ++ more_columns vs

-- the columns, with a comma between any two
abbrev pub columns : List Var → List ℕ
columns [] = []
columns (v ∷ vs) = column v ++ more_columns vs

-- the line for a policy of these free variables
unfoldable pub monitorable_line : List Var → List ℕ
monitorable_line vars = codes "monitorable (" ++ columns vars ++ codes ")\n"
