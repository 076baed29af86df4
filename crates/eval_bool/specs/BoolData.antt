-- The plain data of OR and of conjunctions, beside what their states are made with.
use Rattle.std.specs.Prelude.{ℕ, ◌+◌, ◌≤◌, ◌^◌, List, [], ◌∷◌, length, map}
use Rattle.mfotl_model.specs.Tables.{TableOf}
use Rattle.relations.specs.Pushed.{AreOver}
use Rattle.eval_bool.specs.IsJoin.{FewFrom}
use Rattle.eval_bool.specs.JoinView.{ChildOf, JoinOf}
use Rattle.eval_bool.specs.OrView.{OrOf}
use Rattle.eval_bool.specs.declared.recalled.JoinData.{JoinData}
use Rattle.eval_bool.specs.declared.recalled.OrData.{OrData}

-- the state of OR that the data describes, for operands over these columns
abbrev pub or_of : List ℕ → List ℕ → OrData → OrOf
or_of left right kept =
    record { left = left; right = right; pulled = kept.pulled; lefts = kept.lefts.items; rights = kept.rights.items }

-- the rule of the data: the tables are over the operands' columns
pub record OrRule (left right : List ℕ) (kept : OrData) : Type 0 where
  pub few : kept.pulled + length kept.lefts.items ≤ 2 ^ 63
  pub lefts : AreOver left kept.lefts.items
  pub rights : AreOver right kept.rights.items

-- the tables of each child
abbrev pub kept_tables : JoinData → List (List TableOf)
kept_tables kept = map (λ ts. ts.items) kept.tables.items

-- the children with these tables in the place of theirs
abbrev pub with_tables : List ChildOf → List (List TableOf) → List ChildOf
with_tables [] tables = []
with_tables (c ∷ children) [] = c ∷ children
with_tables (c ∷ children) (ts ∷ tables) = record c { tables = ts } ∷ with_tables children tables

-- the state of a conjunction with what the data keeps in the place of what it keeps
abbrev pub join_of : JoinOf → JoinData → JoinOf
join_of s kept = record s { pulled = kept.pulled; children = with_tables s.children (kept_tables kept) }

-- there are tables for each child, over its columns
abbrev pub TablesOver : List ChildOf → List (List TableOf) → Type 0
TablesOver [] [] = Unit {0}
TablesOver (c ∷ children) (ts ∷ tables) = AreOver c.columns ts × TablesOver children tables
TablesOver children tables = ⊥

-- the rule of the data of a conjunction with these children: there are tables for each, over its columns
pub record JoinRule (children : List ChildOf) (kept : JoinData) : Type 0 where
  pub over : TablesOver children (kept_tables kept)
  pub few : FewFrom kept.pulled (with_tables children (kept_tables kept))
