-- What happens to the state of a conjunction as tables are pushed and pulled.
use Rattle.std.specs.Prelude.{◌≡◌, ℕ, zero, suc, ◌+◌, false, nat_le, List, [], ◌∷◌, ◌++◌, length, drop, map, true}
use Rattle.std.specs.List.{list_all}
use Rattle.mfotl_model.specs.Satisfaction.{Valuation}
use Rattle.mfotl_model.specs.Tables.{TableOf, has}
use Rattle.eval_bool.specs.JoinView.{ChildOf, JoinOf, join_due, joins}
use Rattle.relations.specs.Pushed.{AreOver, StandFrom}

-- the children, one of which has more tables
abbrev pub child_fed : List ChildOf → ℕ → List TableOf → List ChildOf
child_fed [] n tables = []
child_fed (c ∷ children) zero tables = record c { tables = c.tables ++ tables } ∷ children
child_fed (c ∷ children) (suc n) tables = c ∷ child_fed children n tables

-- the first children each have more tables
abbrev pub children_fed : List ChildOf → List (List TableOf) → List ChildOf
children_fed [] lists = []
children_fed (c ∷ children) [] = c ∷ children
children_fed (c ∷ children) (tables ∷ lists) = record c { tables = c.tables ++ tables } ∷ children_fed children lists

-- the state with more tables for its first children
abbrev pub join_fed : JoinOf → List (List TableOf) → JoinOf
join_fed s lists = record s { children = children_fed s.children lists }

-- a child without the first n of its tables
abbrev pub child_dropped : ℕ → ChildOf → ChildOf
child_dropped n c = record c { tables = drop n c.tables }

-- the state with n positions pulled
abbrev pub join_pulled : ℕ → JoinOf → JoinOf
join_pulled n s = record s { pulled = s.pulled + n; children = map (child_dropped n) s.children }

-- tables were pulled, each of the rows at which the conjunction holds by the children's tables
pub record JoinPulled (old new : JoinOf) (tables : List TableOf) : Type 0 where
  pub state : new ≡ join_pulled (length tables) old
  pub room : list_all (λ c. nat_le (length tables) (length c.tables)) old.children ≡ true
  pub over : AreOver old.columns tables
  pub rows : (v : Valuation) → StandFrom (λ k table. has table v ≡ joins (join_pulled k old) v) 0 tables

-- a state takes tables of its children, and gives all tables that are due then
pub record JoinTakes (old : JoinOf) (lists : List (List TableOf)) (new : JoinOf) (tables : List TableOf) : Type 0 where
  pub pulls : JoinPulled (join_fed old lists) new tables
  pub ends : join_due new ≡ false
