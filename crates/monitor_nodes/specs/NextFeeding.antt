-- What happens to the state of a NEXT as tables are pushed and pulled.
use Rattle.std.specs.Prelude.{◌≡◌, ℕ, ◌+◌, ◌<◌, ◌≤◌, Bool, true, false, List, [], ◌∷◌, ◌++◌, length, drop}
use Rattle.mfotl_model.specs.Satisfaction.{Valuation, next, time_at, truth_at}
use Rattle.mfotl_model.specs.Tables.{TableOf, has}
use Rattle.eval_until.specs.NextView.{FollowsNext, NextOf, next_due, tables_pushed}
use Rattle.relations.specs.Pushed.{AreOver, StandFrom}

-- whether the table of the first position was pushed, once these were
abbrev pub next_started : Bool → List TableOf → Bool
next_started true tables = true
next_started false [] = false
next_started false (table ∷ tables) = true

-- those that are kept: all but the one of the first position
abbrev pub next_kept : Bool → List TableOf → List TableOf
next_kept true tables = tables
next_kept false [] = []
next_kept false (table ∷ tables) = tables

-- the operand has more tables
abbrev pub next_fed : NextOf → List TableOf → NextOf
next_fed s tables =
    record s { started = next_started s.started tables; tables = s.tables ++ next_kept s.started tables }

-- before the first table nothing was pulled, and no table is kept
abbrev pub BeginsBare : NextOf → Type 0
BeginsBare s = s.started ≡ false → (s.pulled ≡ 0) × (length s.tables ≡ 0)

-- the operand's tables were pushed, and the state is right where it was, and they are
pub record NextPushed (old new : NextOf) (tables : List TableOf) : Type 0 where
  pub pushed : new ≡ next_fed old tables
  pub follows : BeginsBare old → (t : List ℕ) (a : List Bool) (v : Valuation) → FollowsNext old t a v
      → StandFrom (λ i table. has table v ≡ truth_at a i) (tables_pushed old) tables
      → FollowsNext new t a v

-- tables were pulled; the state is right where it was, and they are NEXT's
pub record NextPulled (old new : NextOf) (tables : List TableOf) : Type 0 where
  pub interval : new.interval ≡ old.interval
  pub columns : new.columns ≡ old.columns
  pub pulled : new.pulled ≡ old.pulled + length tables
  pub times : new.times ≡ drop (length tables) old.times
  pub started : new.started ≡ old.started
  pub kept : new.tables ≡ drop (length tables) old.tables
  pub in_times : length tables ≤ length old.times
  pub in_tables : length tables ≤ length old.tables
  pub begun : 0 < length tables → old.started ≡ true
  pub over : AreOver old.columns tables
  pub follows : (t : List ℕ) (a : List Bool) (v : Valuation) → FollowsNext old t a v → FollowsNext new t a v
  pub rows : (t : List ℕ) (a : List Bool) (v : Valuation) → FollowsNext old t a v
      → StandFrom (λ i table. has table v ≡ next old.interval t a i) old.pulled tables

-- a state takes a time and tables of the operand, and gives all tables that are due then
pub record NextTakes (old : NextOf) (ts : ℕ) (operand : List TableOf) (new : NextOf) (tables : List TableOf) : Type 0
  where
    pub timed : NextOf
    pub fed : NextOf
    pub time : timed ≡ record old { times = old.times ++ ts ∷ [] }
    pub time_follows : (t : List ℕ) (a : List Bool) (v : Valuation) → FollowsNext old t a v
        → ts ≡ time_at t (old.pulled + length old.times) → old.pulled + length old.times < length t
        → FollowsNext timed t a v
    pub pushes : NextPushed timed fed operand
    pub pulls : NextPulled fed new tables
    pub ends : next_due new ≡ false
