-- What happens to the state of a PREVIOUS as tables are pushed and pulled.
use Rattle.std.specs.Prelude.{◌≡◌, ℕ, ◌+◌, ◌-◌, ◌≤◌, Bool, false, List, [], ◌∷◌, ◌++◌, length, drop}
use Rattle.mfotl_model.specs.Satisfaction.{Valuation, previous, time_at, truth_at}
use Rattle.mfotl_model.specs.Tables.{TableOf, has}
use Rattle.eval_since.specs.PreviousView.{FollowsPrevious, PrevOf, previous_due}
use Rattle.relations.specs.Pushed.{AreOver, StandFrom}
use Rattle.monitor_nodes.specs.Stamps.{stamps}

-- the operand's tables were pushed, and the state is right where it was, and they are
pub record PreviousPushed (old new : PrevOf) (tables : List TableOf) : Type 0 where
  pub pushed : new ≡ record old { tables = old.tables ++ tables }
  pub follows : (t : List ℕ) (a : List Bool) (v : Valuation) → FollowsPrevious old t a v
      → StandFrom (λ i table. has table v ≡ truth_at a i) (old.pulled - 1 + length old.tables) tables
      → FollowsPrevious new t a v

-- how many of the operand's tables are used for n positions from p on: the first one of all uses none
abbrev pub tables_used : ℕ → ℕ → ℕ
tables_used p n = p + n - 1 - (p - 1)

-- tables were pulled; the state is right where it was, and they are PREVIOUS's
pub record PreviousPulled (old new : PrevOf) (tables : List TableOf) : Type 0 where
  pub interval : new.interval ≡ old.interval
  pub columns : new.columns ≡ old.columns
  pub pulled : new.pulled ≡ old.pulled + length tables
  pub times : new.times ≡ drop (length tables) old.times
  pub known : stamps new.pulled new.last new.times
      ≡ drop (tables_used old.pulled (length tables)) (stamps old.pulled old.last old.times)
  pub kept : new.tables ≡ drop (tables_used old.pulled (length tables)) old.tables
  pub in_times : length tables ≤ length old.times
  pub in_tables : tables_used old.pulled (length tables) ≤ length old.tables
  pub over : AreOver old.columns tables
  pub follows : (t : List ℕ) (a : List Bool) (v : Valuation) → FollowsPrevious old t a v → FollowsPrevious new t a v
  pub rows : (t : List ℕ) (a : List Bool) (v : Valuation) → FollowsPrevious old t a v
      → StandFrom (λ i table. has table v ≡ previous old.interval t a i) old.pulled tables

-- a state takes a time and tables of the operand, and gives all tables that are due then
pub record PreviousTakes (old : PrevOf) (ts : ℕ) (operand : List TableOf) (new : PrevOf) (tables : List TableOf) : Type
    0 where
  pub timed : PrevOf
  pub fed : PrevOf
  pub time : timed ≡ record old { times = old.times ++ ts ∷ [] }
  pub time_follows : (t : List ℕ) (a : List Bool) (v : Valuation) → FollowsPrevious old t a v
      → ts ≡ time_at t (old.pulled + length old.times) → FollowsPrevious timed t a v
  pub pushes : PreviousPushed timed fed operand
  pub pulls : PreviousPulled fed new tables
  pub ends : previous_due new ≡ false
