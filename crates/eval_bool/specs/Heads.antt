-- The tables of the next position, apart: those of the children to be joined, and those to be taken away.
use Rattle.std.specs.Prelude.{◌≡◌, ℕ, zero, suc, Bool, true, not, cond, ◌&&◌, Option, Some, None, List, [], ◌∷◌}
use Rattle.std.specs.Prelude.{◌++◌, take}
use Rattle.std.specs.List.{list_all, list_any}
use Rattle.mfotl_model.specs.FreeVariables.{among}
use Rattle.mfotl_model.specs.Satisfaction.{Valuation}
use Rattle.mfotl_model.specs.Tables.{TableOf, all_among, all_apart, has}
use Rattle.relations.specs.Pushed.{AreOver}
use Rattle.eval_bool.specs.JoinView.{ChildOf, JoinOf, child_advanced, child_holds, compared_variables}

-- the children, of which the first n lost their first tables
abbrev pub advanced_to : ℕ → List ChildOf → List ChildOf
advanced_to zero children = children
advanced_to (suc n) [] = []
advanced_to (suc n) (c ∷ children) = child_advanced c ∷ advanced_to n children

-- the first tables of the children that are negated, or of those that aren't
abbrev pub heads_of : Bool → List ChildOf → List TableOf
heads_of negated [] = []
heads_of negated (c ∷ children) =
    cond negated (cond c.negated (take 1 c.tables) [])
    (cond c.negated [] (take 1 c.tables)) ++ heads_of negated children

-- whether each of the tables has the valuation's row
abbrev pub all_have : Valuation → List TableOf → Bool
all_have v tables = list_all (λ t. has t v) tables

-- whether none of the tables has the valuation's row
abbrev pub none_has : Valuation → List TableOf → Bool
none_has v tables = list_all (λ t. not (has t v)) tables

-- whether y is a column of one of the tables
abbrev pub in_columns : ℕ → List TableOf → Bool
in_columns y tables = list_any (λ t. among y t.columns) tables

-- the same of a table that may be none yet
abbrev pub joined_has : Valuation → Option TableOf → Bool
joined_has v None = true
joined_has v (Some t) = has t v

-- the columns of a table that may be none yet
abbrev pub joined_columns : Option TableOf → List ℕ
joined_columns None = []
joined_columns (Some t) = t.columns

-- whether the columns of each of the tables are among these
abbrev pub all_inside : List ℕ → List TableOf → Bool
all_inside columns tables = list_all (λ t. all_among t.columns columns) tables

-- the first of the tables over these columns, if there is one
abbrev pub IsHeadTable : List ℕ → List TableOf → Option TableOf → Type 0
IsHeadTable columns tables None = tables ≡ []
IsHeadTable columns tables (Some t) = (take 1 tables ≡ t ∷ []) × (t.columns ≡ columns)

-- the first table of each child, if it has one, is over the child's columns
abbrev pub FirstsOver : List ChildOf → Type 0
FirstsOver [] = Unit {0}
FirstsOver (c ∷ children) = AreOver c.columns (take 1 c.tables) × FirstsOver children

-- what the tables taken say: which columns they have, and whether the children hold
pub record AreHeads (s : JoinOf) (plain negated : List TableOf) : Type 0 where
  pub apart : all_apart s.columns ≡ true
  pub same : (y : ℕ) → among y s.columns ≡ in_columns y plain
  pub inside : all_inside s.columns negated ≡ true
  pub tests : list_all (λ t. all_among (compared_variables t.comparison) s.columns) s.tests ≡ true
  pub holds : (v : Valuation) → (all_have v plain && none_has v negated) ≡ list_all (child_holds v) s.children
