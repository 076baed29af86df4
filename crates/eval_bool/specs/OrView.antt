-- The state of OR as contracts see it.
use Rattle.std.specs.Prelude.{ℕ, ◌+◌, Bool, cond, ◌&&◌, nat_eq, nat_lt, List, [], ◌∷◌, ◌++◌, length, drop}
use Rattle.mfotl_model.specs.Tables.{TableOf, all_among}

-- the operands' columns, how many positions were pulled, and the operands' tables for later ones
pub record OrOf : Type 0 where
  pub left : List ℕ
  pub right : List ℕ
  pub pulled : ℕ
  pub lefts : List TableOf
  pub rights : List TableOf

-- the state before the first position
abbrev pub or_begun : List ℕ → List ℕ → OrOf
or_begun left right = record { left = left; right = right; pulled = 0; lefts = []; rights = [] }

-- the columns of an operand: of the first one, 0, or of the second one, 1
abbrev pub operand_columns : OrOf → ℕ → List ℕ
operand_columns s child = cond (nat_eq child 0) s.left s.right

-- the tables of an operand
abbrev pub operand_tables : OrOf → ℕ → List TableOf
operand_tables s child = cond (nat_eq child 0) s.lefts s.rights

-- the state with one more table of an operand
abbrev pub or_pushed : OrOf → ℕ → TableOf → OrOf
or_pushed s child table =
    cond (nat_eq child 0) (record s { lefts = s.lefts ++ table ∷ [] }) (record s { rights = s.rights ++ table ∷ [] })

-- whether both tables of the next position were pushed
abbrev pub or_due : OrOf → Bool
or_due s = nat_lt 0 (length s.lefts) && nat_lt 0 (length s.rights)

-- the state with one position pulled
abbrev pub or_advanced : OrOf → OrOf
or_advanced s = record s { pulled = s.pulled + 1; lefts = drop 1 s.lefts; rights = drop 1 s.rights }

-- whether two lists have the same columns, in whatever order
abbrev pub same_columns : List ℕ → List ℕ → Bool
same_columns left right = all_among left right && all_among right left
