-- What happens to the state of a conjunction whose right side is asked for the left one's rows as tables are pushed and
-- pulled.
use Rattle.std.specs.Prelude.{◌≡◌, ℕ, Bool, ◌&&◌, true, cond, Option, Some, None, List, [], ◌∷◌, ◌++◌}
use Rattle.mfotl_model.specs.FreeVariables.{joined}
use Rattle.mfotl_model.specs.Satisfaction.{Valuation}
use Rattle.mfotl_model.specs.Tables.{TableOf, all_among, has, has_row, valuation}
use Rattle.mfotl_model.specs.declared.value.Value.{Value}
use Rattle.eval_since.specs.SinceView.{Advances, Follows}
use Rattle.eval_until.specs.UntilView.{Advances as AdvancesUntil, Follows as FollowsUntil, FollowsLeft, Takes, UntilOf}
use Rattle.eval_until.specs.UntilView.{to_take, took_all}
use Rattle.relations.specs.Pushed.{turned}
use Rattle.monitor_nodes.specs.Feeding.{SinceFeeds}
use Rattle.monitor_nodes.specs.UntilFeeding.{UntilFeeds}
use Rattle.monitor_nodes.specs.WindowNode.{WindowHolds, window_columns, window_due, window_took_all}
use Rattle.monitor_nodes.specs.declared.filter.FilterState.{FilterState}
use Rattle.monitor_nodes.specs.declared.window.Window.{Window}
use Rattle.monitor_nodes.specs.declared.window.Window.TheVariants as window

-- a window takes a time and tables of both operands
abbrev pub WindowFeeds : Window → ℕ → List TableOf → List TableOf → Window → Type 0
WindowFeeds (window.Since old) ts ls rs (window.Since fed) = SinceFeeds old ts ls rs fed
WindowFeeds (window.Until old) ts ls rs (window.Until fed) = UntilFeeds old ts ls rs fed
WindowFeeds old ts ls rs fed = ⊥

-- the state of an UNTIL took all positions that it can, and each side is right where it was
pub record UntilSettles (old new : UntilOf) : Type 0 where
  pub takes : Takes (to_take old) old new
  pub all : took_all new ≡ true
  pub left : (a : List Bool) (v : Valuation) → FollowsLeft old a v → FollowsLeft new a v
  pub follows : (t : List ℕ) (a b : List Bool) (v : Valuation) → FollowsUntil old t a b v → FollowsUntil new t a b v

-- a window took all positions that it can; a SINCE has none to take
abbrev pub WindowSettles : Window → Window → Type 0
WindowSettles (window.Since old) (window.Since new) = new ≡ old
WindowSettles (window.Until old) (window.Until new) = UntilSettles old new
WindowSettles old new = ⊥

-- a window went on by one position, and is right where it was
abbrev pub WindowGoes : Window → Window → Type 0
WindowGoes (window.Since old) (window.Since new) =
    Advances old new × ((t : List ℕ) (a b : List Bool) (v : Valuation) → Follows old t a b v → Follows new t a b v)
WindowGoes (window.Until old) (window.Until new) =
    AdvancesUntil (to_take old) old new
    × ((a : List Bool) (v : Valuation) → FollowsLeft old a v → FollowsLeft new a v)
    × ((t : List ℕ) (a b : List Bool) (v : Valuation) → FollowsUntil old t a b v → FollowsUntil new t a b v)
WindowGoes old new = ⊥

-- of the rows over these columns those are kept of which the window holds, or doesn't where it is negated
abbrev pub Sifts : Window → Bool → List ℕ → List (List Value) → List (List Value) → Type 0
Sifts w negated columns rows kept =
    (row : List Value) (holds : Bool)
    → ((answer : Bool) → WindowHolds w (valuation columns row) answer → answer ≡ holds)
    → has_row kept row ≡ (has_row rows row && turned negated holds)

-- one row more was asked of: it is kept or left out
abbrev pub RowSifted : Window → Bool → List ℕ → List Value → List (List Value) → List (List Value) → Type 0
RowSifted w negated columns row old new =
    (answer : Bool) × WindowHolds w (valuation columns row) answer
    × (new ≡ old ++ cond (turned negated answer) (row ∷ []) [])

-- of a window's rows these were given: of those whose part is one of the keys all of which the window holds
pub record Finds (w : Window) (keys found : TableOf) : Type 0 where
  pub over : found.columns ≡ window_columns w
  pub rows : (v : Valuation) → has keys v ≡ true → WindowHolds w v (has found v)

-- a table's rows were joined with those of which the window holds, where the columns of both are those of `order`
pub record Joins (w : Window) (order table kept : TableOf) : Type 0 where
  pub over : kept.columns ≡ order.columns
  pub rows : all_among order.columns (joined table.columns (window_columns w)) ≡ true
      → all_among (joined table.columns (window_columns w)) order.columns ≡ true
      → (v : Valuation) (holds : Bool) → ((answer : Bool) → WindowHolds w v answer → answer ≡ holds)
      → has kept v ≡ (has table v && holds)

-- the rows of a table were filtered, or joined with more columns
abbrev pub FiltersOrJoins : Window → Bool → Option TableOf → TableOf → TableOf → Type 0
FiltersOrJoins w negated None table kept =
    (kept.columns ≡ table.columns) × Sifts w negated table.columns table.rows kept.rows
FiltersOrJoins w negated (Some order) table kept = Joins w order table kept

-- one table was pulled: the rows of the left side's first one of which the window holds
pub record FilterStep (old new : FilterState) (kept : TableOf) : Type 0 where
  pub table : TableOf
  pub ready : Window
  pub front : old.tables ≡ table ∷ new.tables
  pub turns : new.negated ≡ old.negated
  pub orders : new.order ≡ old.order
  pub settles : WindowSettles old.window ready
  pub was_due : window_due ready ≡ true
  pub gives : FiltersOrJoins ready old.negated old.order table kept
  pub goes : WindowGoes ready new.window

-- tables were pulled, one after the other
abbrev pub FilterPulled : FilterState → FilterState → List TableOf → Type 0
FilterPulled old new [] = new ≡ old
FilterPulled old new (kept ∷ tables) = (mid : FilterState) × FilterStep old mid kept × FilterPulled mid new tables

-- no more can be pulled, and the window took all positions that it can
pub record FilterStops (old new : FilterState) : Type 0 where
  pub tables : new.tables ≡ old.tables
  pub turns : new.negated ≡ old.negated
  pub orders : new.order ≡ old.order
  pub settles : WindowSettles old.window new.window
  pub done : window_due new.window ≡ true → new.tables ≡ []
  pub all : window_took_all new.window ≡ true

-- a state takes a time and tables of all operands, and gives all tables that are due then
pub record FilterTakes (old : FilterState) (ts : ℕ) (fs ls rs : List TableOf) (new : FilterState)
    (tables : List TableOf) : Type 0 where
  pub fed : FilterState
  pub last : FilterState
  pub pushed : fed.tables ≡ old.tables ++ fs
  pub turns : fed.negated ≡ old.negated
  pub orders : fed.order ≡ old.order
  pub feeds : WindowFeeds old.window ts ls rs fed.window
  pub pulls : FilterPulled fed last tables
  pub stops : FilterStops last new
