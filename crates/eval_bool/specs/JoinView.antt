-- The state of a conjunction as contracts see it.
use Rattle.std.specs.Prelude.{ℕ, zero, suc, ◌+◌, Bool, cond, ◌&&◌, nat_lt, List, [], ◌∷◌, ◌++◌, length, map, drop}
use Rattle.std.specs.List.{list_all}
use Rattle.mfotl_model.specs.FreeVariables.{joined, variables_in}
use Rattle.mfotl_model.specs.Satisfaction.{Valuation}
use Rattle.mfotl_model.specs.Tables.{TableOf, all_among}
use Rattle.mfotl_model.specs.declared.term.Comparison.{Comparison}
use Rattle.relations.specs.Operations.{chosen}
use Rattle.relations.specs.Pushed.{turned}
use Rattle.eval_bool.specs.Firsts.{first_has}
use Rattle.eval_bool.specs.declared.conjunct.Conjunct.{Conjunct}
use Rattle.eval_bool.specs.declared.conjunct.Conjunct.TheVariants as variants

-- a conjunct: a child over these columns, to be joined or, where it is negated, taken away; or a
-- comparison that has to come out as wanted
pub data ConjunctOf : Type 0 where
  Child : (columns : List ℕ) (negated : Bool) → ConjunctOf
  Test : (comparison : Comparison) (wanted : Bool) → ConjunctOf

-- a conjunct without the memory that its columns are in
abbrev pub conjunct_of : Conjunct → ConjunctOf
conjunct_of (variants.Child columns negated) = Child columns.items negated
conjunct_of (variants.Test comparison wanted) = Test comparison wanted

-- a child's columns, whether it is negated, and its tables for the positions that weren't pulled
pub record ChildOf : Type 0 where
  pub columns : List ℕ
  pub negated : Bool
  pub tables : List TableOf

-- a comparison, and how it has to come out
pub record TestOf : Type 0 where
  pub comparison : Comparison
  pub wanted : Bool

-- the columns of the tables that are pulled, the tests, how many positions were pulled, and the children
pub record JoinOf : Type 0 where
  pub columns : List ℕ
  pub tests : List TestOf
  pub pulled : ℕ
  pub children : List ChildOf

-- the variables of a comparison
abbrev pub compared_variables : Comparison → List ℕ
compared_variables c = variables_in (c.left ∷ c.right ∷ [])

-- the columns of a child, and the variables of a test
abbrev pub own_columns : ConjunctOf → List ℕ
own_columns (Child columns negated) = columns
own_columns (Test c wanted) = compared_variables c

-- the columns of a conjunction: those of each conjunct, each at its first occurrence
abbrev pub conjunct_columns : List ConjunctOf → List ℕ
conjunct_columns [] = []
conjunct_columns (c ∷ conjuncts) = joined (own_columns c) (conjunct_columns conjuncts)

-- the children among the conjuncts, in order, without tables
abbrev pub children_of : List ConjunctOf → List ChildOf
children_of [] = []
children_of (Child columns negated ∷ conjuncts) =
    record { columns = columns; negated = negated; tables = [] } ∷ children_of conjuncts
children_of (Test c wanted ∷ conjuncts) = children_of conjuncts

-- the tests among the conjuncts, in order
abbrev pub tests_of : List ConjunctOf → List TestOf
tests_of [] = []
tests_of (Child columns negated ∷ conjuncts) = tests_of conjuncts
tests_of (Test c wanted ∷ conjuncts) = record { comparison = c; wanted = wanted } ∷ tests_of conjuncts

-- the state before the first position
abbrev pub join_begun : List ConjunctOf → JoinOf
join_begun conjuncts =
    record {
      columns = conjunct_columns conjuncts;
      tests = tests_of conjuncts;
      pulled = 0;
      children = children_of conjuncts;
    }

-- the columns of the children that aren't negated
abbrev pub bound_columns : List ChildOf → List ℕ
bound_columns [] = []
bound_columns (c ∷ children) = cond c.negated (bound_columns children) (c.columns ++ bound_columns children)

-- whether each child's columns pass
abbrev pub all_children : (List ℕ → Bool) → List ChildOf → Bool
all_children p children = list_all (λ c. p c.columns) children

-- whether each column of a child, and each variable of a test, is a column of a child that isn't negated
abbrev pub is_guarded : List ChildOf → List TestOf → Bool
is_guarded children tests =
    all_children (λ columns. all_among columns (bound_columns children)) children
    && list_all (λ t. all_among (compared_variables t.comparison) (bound_columns children)) tests

-- the columns of a child, by its number
abbrev pub child_columns : List ChildOf → ℕ → List ℕ
child_columns [] n = []
child_columns (c ∷ children) zero = c.columns
child_columns (c ∷ children) (suc n) = child_columns children n

-- the tables of a child, by its number
abbrev pub child_tables : List ChildOf → ℕ → List TableOf
child_tables [] n = []
child_tables (c ∷ children) zero = c.tables
child_tables (c ∷ children) (suc n) = child_tables children n

-- the children, one of which has one more table
abbrev pub child_pushed : List ChildOf → ℕ → TableOf → List ChildOf
child_pushed [] n table = []
child_pushed (c ∷ children) zero table = record c { tables = c.tables ++ table ∷ [] } ∷ children
child_pushed (c ∷ children) (suc n) table = c ∷ child_pushed children n table

-- whether each child's table for the next position was pushed
abbrev pub join_due : JoinOf → Bool
join_due s = list_all (λ c. nat_lt 0 (length c.tables)) s.children

-- a child without the first of its tables
abbrev pub child_advanced : ChildOf → ChildOf
child_advanced c = record c { tables = drop 1 c.tables }

-- the state with one position pulled
abbrev pub join_advanced : JoinOf → JoinOf
join_advanced s = record s { pulled = s.pulled + 1; children = map child_advanced s.children }

-- whether a child holds at the next position, by its table: a negated one where the table hasn't the row
abbrev pub child_holds : Valuation → ChildOf → Bool
child_holds v c = turned c.negated (first_has v c.tables)

-- whether a comparison comes out as wanted
abbrev pub test_holds : Valuation → TestOf → Bool
test_holds v t = chosen t.comparison t.wanted v

-- whether each child and each test holds at the next position
abbrev pub joins : JoinOf → Valuation → Bool
joins s v = list_all (child_holds v) s.children && list_all (test_holds v) s.tests
