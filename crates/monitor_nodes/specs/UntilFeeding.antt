-- What happens to the state of an UNTIL as tables are pushed and pulled.
use Rattle.std.specs.Prelude.{◌≡◌, ℕ, ◌+◌, ◌<◌, ◌≤◌, Bool, true, false, List, [], ◌∷◌, ◌++◌, length, drop}
use Rattle.mfotl_model.specs.Satisfaction.{Valuation, time_at, truth_at, until}
use Rattle.mfotl_model.specs.Tables.{TableOf, all_among, has}
use Rattle.mfotl_model.specs.Times.{NeverFalls}
use Rattle.eval_until.specs.UntilView.{Follows, FollowsLeft, UntilOf, due, took_all}
use Rattle.relations.specs.Pushed.{AreOver, StandFrom, left_holds}

-- the left operand's tables were pushed, and each side is right where it was, and they are
pub record UntilLeftsPushed (old new : UntilOf) (tables : List TableOf) : Type 0 where
  pub pushed : new ≡ record old { lefts = old.lefts ++ tables }
  pub left : (a : List Bool) (v : Valuation) → FollowsLeft old a v
      → StandFrom (λ i table. left_holds old.ahead.negated table v ≡ truth_at a i)
      (old.ahead.taken + length old.lefts) tables
      → FollowsLeft new a v
  pub follows : (t : List ℕ) (a b : List Bool) (v : Valuation) → Follows old t a b v
      → StandFrom (λ i table. left_holds old.ahead.negated table v ≡ truth_at a i)
      (old.ahead.taken + length old.lefts) tables
      → Follows new t a b v

-- the right operand's tables were pushed, likewise; the left side is right where it was
pub record UntilRightsPushed (old new : UntilOf) (tables : List TableOf) : Type 0 where
  pub pushed : new ≡ record old { rights = old.rights ++ tables }
  pub left : (a : List Bool) (v : Valuation) → FollowsLeft old a v → FollowsLeft new a v
  pub follows : (t : List ℕ) (a b : List Bool) (v : Valuation) → Follows old t a b v
      → StandFrom (λ i table. has table v ≡ truth_at b i) (old.ahead.taken + length old.rights) tables
      → Follows new t a b v

-- the state as it is n positions further on, by the times and counts alone
abbrev pub until_past : ℕ → UntilOf → UntilOf
until_past n s =
    record s { ahead = record s.ahead { pulled = s.ahead.pulled + n }; times = drop n s.times }

-- tables were pulled, each of a position that was due; the tables of some positions were taken, as many of both
-- operands; each side is right where it was, and what was pulled is UNTIL's, where its columns are the right
-- operand's in some order
pub record UntilPulled (columns : List ℕ) (old new : UntilOf) (tables : List TableOf) : Type 0 where
  pub seen : ℕ
  pub pulled : new.ahead.pulled ≡ old.ahead.pulled + length tables
  pub taken : new.ahead.taken ≡ old.ahead.taken + seen
  pub interval : new.ahead.interval ≡ old.ahead.interval
  pub left_columns : new.ahead.left ≡ old.ahead.left
  pub right_columns : new.ahead.right ≡ old.ahead.right
  pub negated : new.ahead.negated ≡ old.ahead.negated
  pub times : new.times ≡ drop (length tables) old.times
  pub lefts : new.lefts ≡ drop seen old.lefts
  pub rights : new.rights ≡ drop seen old.rights
  pub in_times : length tables ≤ length old.times
  pub in_lefts : seen ≤ length old.lefts
  pub in_rights : seen ≤ length old.rights
  pub were_due : (n : ℕ) → n < length tables → due (until_past n old) ≡ true
  pub over : AreOver columns tables
  pub left : (a : List Bool) (v : Valuation) → FollowsLeft old a v → FollowsLeft new a v
  pub follows : (t : List ℕ) (a b : List Bool) (v : Valuation) → Follows old t a b v → Follows new t a b v
  pub rows : (t : List ℕ) (a b : List Bool) (v : Valuation) → Follows old t a b v → NeverFalls t
      → all_among columns old.ahead.right ≡ true → all_among old.ahead.right columns ≡ true
      → StandFrom (λ i table. has table v ≡ until old.ahead.interval t a b i) old.ahead.pulled tables

-- a state takes a time and tables of both operands
pub record UntilFeeds (old : UntilOf) (ts : ℕ) (ls rs : List TableOf) (fed : UntilOf) : Type 0 where
  pub timed : UntilOf
  pub fed_left : UntilOf
  pub time : timed ≡ record old { times = old.times ++ ts ∷ [] }
  pub time_left : (a : List Bool) (v : Valuation) → FollowsLeft old a v → FollowsLeft timed a v
  pub time_follows : (t : List ℕ) (a b : List Bool) (v : Valuation) → Follows old t a b v
      → ts ≡ time_at t (old.ahead.pulled + length old.times) → old.ahead.pulled + length old.times < length t
      → Follows timed t a b v
  pub lefts : UntilLeftsPushed timed fed_left ls
  pub rights : UntilRightsPushed fed_left fed rs

-- the same, and gives all tables that are due then; it has taken the positions that can be
pub record UntilTakes (columns : List ℕ) (old : UntilOf) (ts : ℕ) (ls rs : List TableOf) (new : UntilOf)
    (tables : List TableOf) : Type 0 where
  pub fed : UntilOf
  pub feeds : UntilFeeds old ts ls rs fed
  pub pulls : UntilPulled columns fed new tables
  pub ends : due new ≡ false
  pub all : took_all new ≡ true
