-- What happens to the state of an OR as tables are pushed and pulled.
use Rattle.std.specs.Prelude.{◌≡◌, ℕ, ◌+◌, ◌≤◌, false, ◌||◌, cond, nat_eq, List, ◌++◌, length, drop}
use Rattle.mfotl_model.specs.Satisfaction.{Valuation}
use Rattle.mfotl_model.specs.Tables.{TableOf, has}
use Rattle.eval_bool.specs.Firsts.{first_has}
use Rattle.eval_bool.specs.OrView.{OrOf, or_due}
use Rattle.relations.specs.Pushed.{AreOver, StandFrom}

-- an operand, the first one, 0, or the second one, 1, has more tables
abbrev pub operand_fed : OrOf → ℕ → List TableOf → OrOf
operand_fed s child tables =
    cond (nat_eq child 0) (record s { lefts = s.lefts ++ tables }) (record s { rights = s.rights ++ tables })

-- both operands have more tables
abbrev pub or_fed : OrOf → List TableOf → List TableOf → OrOf
or_fed s ls rs = record s { lefts = s.lefts ++ ls; rights = s.rights ++ rs }

-- the state with n positions pulled
abbrev pub or_pulled : ℕ → OrOf → OrOf
or_pulled n s = record s { pulled = s.pulled + n; lefts = drop n s.lefts; rights = drop n s.rights }

-- tables were pulled, each of the rows of either operand's table
pub record OrPulled (old new : OrOf) (tables : List TableOf) : Type 0 where
  pub state : new ≡ or_pulled (length tables) old
  pub in_lefts : length tables ≤ length old.lefts
  pub in_rights : length tables ≤ length old.rights
  pub over : AreOver old.left tables
  pub rows : (v : Valuation)
      → StandFrom (λ k table. has table v ≡ (first_has v (drop k old.lefts) || first_has v (drop k old.rights))) 0
      tables

-- a state takes tables of both operands, and gives all tables that are due then
pub record OrTakes (old : OrOf) (ls rs : List TableOf) (new : OrOf) (tables : List TableOf) : Type 0 where
  pub pulls : OrPulled (or_fed old ls rs) new tables
  pub ends : or_due new ≡ false
