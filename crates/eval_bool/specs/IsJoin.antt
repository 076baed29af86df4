-- What holds of the state of a conjunction.
use Rattle.std.specs.Prelude.{◌≡◌, ℕ, ◌+◌, ◌≤◌, ◌^◌, true, List, [], ◌∷◌, length}
use Rattle.mfotl_model.specs.FreeVariables.{among}
use Rattle.mfotl_model.specs.Tables.{all_apart}
use Rattle.eval_bool.specs.JoinView.{ChildOf, TestOf, bound_columns, is_guarded}

-- no child has tables for positions above 2^63
abbrev pub FewFrom : ℕ → List ChildOf → Type 0
FewFrom pulled [] = Unit {0}
FewFrom pulled (c ∷ children) = (pulled + length c.tables ≤ 2 ^ 63) × FewFrom pulled children

-- the columns are those of the children that aren't negated, which bind all others
pub record IsJoin (columns : List ℕ) (tests : List TestOf) (pulled : ℕ) (children : List ChildOf) : Type 0 where
  pub apart : all_apart columns ≡ true
  pub same : (y : ℕ) → among y columns ≡ among y (bound_columns children)
  pub guarded : is_guarded children tests ≡ true
  pub few : FewFrom pulled children
