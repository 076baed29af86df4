-- What happens to the states of PREVIOUS and SINCE as tables are pushed and pulled.
use Rattle.std.specs.Prelude.{◌≡◌, ℕ, ◌+◌, ◌≤◌, Bool, true, false, List, [], ◌∷◌, ◌++◌, length, drop}
use Rattle.mfotl_model.specs.Satisfaction.{Valuation, since, time_at, truth_at}
use Rattle.mfotl_model.specs.Tables.{TableOf, all_among, has}
use Rattle.eval_since.specs.SinceView.{Follows, SinceOf, due}
use Rattle.relations.specs.Pushed.{AreOver, StandFrom, left_holds}
use Rattle.monitor_nodes.specs.PreviousFeeding.{tables_used}
use Rattle.monitor_nodes.specs.Stamps.{stamps}

-- the left operand's tables were pushed, and the state is right where it was, and they are
pub record LeftsPushed (old new : SinceOf) (tables : List TableOf) : Type 0 where
  pub pushed : new ≡ record old { lefts = old.lefts ++ tables }
  pub follows : (t : List ℕ) (a b : List Bool) (v : Valuation) → Follows old t a b v
      → StandFrom (λ i table. left_holds old.negated table v ≡ truth_at a i) (old.pulled + length old.lefts) tables
      → Follows new t a b v

-- the right operand's tables were pushed, likewise
pub record RightsPushed (old new : SinceOf) (tables : List TableOf) : Type 0 where
  pub pushed : new ≡ record old { rights = old.rights ++ tables }
  pub follows : (t : List ℕ) (a b : List Bool) (v : Valuation) → Follows old t a b v
      → StandFrom (λ i table. has table v ≡ truth_at b i) (old.pulled + length old.rights) tables
      → Follows new t a b v

-- tables were pulled; the state is right where it was, and they are SINCE's, where their columns are the
-- right operand's in some order
pub record SincePulled (columns : List ℕ) (old new : SinceOf) (tables : List TableOf) : Type 0 where
  pub pulled : new.pulled ≡ old.pulled + length tables
  pub negated : new.negated ≡ old.negated
  pub interval : new.window.interval ≡ old.window.interval
  pub left : new.window.left ≡ old.window.left
  pub right : new.window.right ≡ old.window.right
  pub times : new.times ≡ drop (length tables) old.times
  pub known : stamps new.pulled new.window.last new.times
      ≡ drop (tables_used old.pulled (length tables)) (stamps old.pulled old.window.last old.times)
  pub lefts : new.lefts ≡ drop (length tables) old.lefts
  pub rights : new.rights ≡ drop (length tables) old.rights
  pub in_times : length tables ≤ length old.times
  pub in_lefts : length tables ≤ length old.lefts
  pub in_rights : length tables ≤ length old.rights
  pub over : AreOver columns tables
  pub follows : (t : List ℕ) (a b : List Bool) (v : Valuation) → Follows old t a b v → Follows new t a b v
  pub rows : (t : List ℕ) (a b : List Bool) (v : Valuation) → Follows old t a b v
      → all_among columns old.window.right ≡ true → all_among old.window.right columns ≡ true
      → StandFrom (λ i table. has table v ≡ since old.window.interval t a b i) old.pulled tables

-- a state takes a time and tables of both operands
pub record SinceFeeds (old : SinceOf) (ts : ℕ) (ls rs : List TableOf) (fed : SinceOf) : Type 0 where
  pub timed : SinceOf
  pub fed_left : SinceOf
  pub time : timed ≡ record old { newest = ts; times = old.times ++ ts ∷ [] }
  pub time_follows : (t : List ℕ) (a b : List Bool) (v : Valuation) → Follows old t a b v
      → ts ≡ time_at t (old.pulled + length old.times) → Follows timed t a b v
  pub lefts : LeftsPushed timed fed_left ls
  pub rights : RightsPushed fed_left fed rs

-- the same, and gives all tables that are due then
pub record SinceTakes (columns : List ℕ) (old : SinceOf) (ts : ℕ) (ls rs : List TableOf) (new : SinceOf)
    (tables : List TableOf) : Type 0 where
  pub fed : SinceOf
  pub feeds : SinceFeeds old ts ls rs fed
  pub pulls : SincePulled columns fed new tables
  pub ends : due new ≡ false
