-- How a word spells a value or a term.
use Rattle.std.specs.Prelude.{ℕ, List, ◌++◌, codes}
use Rattle.std.specs.Fmt.{decimal, signed_decimal}
use Rattle.mfotl_model.specs.declared.term.Term.{Term}
use Rattle.mfotl_model.specs.declared.term.Term.TheVariants.{Var, Const}
use Rattle.mfotl_model.specs.declared.value.Value.{Value}
use Rattle.mfotl_model.specs.declared.value.Value.TheVariants.{Int, Text}

-- an integer behind an i, a text behind a t
abbrev pub spelled_value : Value → List ℕ
spelled_value (Int n) = codes "i" ++ signed_decimal n
spelled_value (Text bytes) = codes "t" ++ bytes

-- a variable by its number behind a v, a constant as its value
abbrev pub spelled_term : Term → List ℕ
spelled_term (Var x) = codes "v" ++ decimal x
spelled_term (Const a) = spelled_value a
