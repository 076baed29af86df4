-- Laws that hold of every formula, table and region.
use Rattle.std.specs.Prelude.{◌≡◌, ℕ, ◌+◌, ◌<◌, ◌++◌, ◌∷◌, true, false, List, length}
use Rattle.mfotl_model.specs.Counts.{settled_count}
use Rattle.mfotl_model.specs.Exact.{AllExact, Exact, View}
use Rattle.mfotl_model.specs.Formulas.{Form}
use Rattle.mfotl_model.specs.FreeVariables.{among, variables_in}
use Rattle.mfotl_model.specs.Regions.{Region, Passes, everywhere, in_both, near_of}
use Rattle.mfotl_model.specs.Satisfaction.{Valuation, event_of, has_event}
use Rattle.mfotl_model.specs.Settled.{settled}
use Rattle.mfotl_model.specs.Slices.{slice}
use Rattle.mfotl_model.specs.Strategies.{Strategy}
use Rattle.mfotl_model.specs.Tables.{TableOf}
use Rattle.mfotl_model.specs.Times.{NeverFalls}
use Rattle.mfotl_model.specs.declared.event.Event.{Event}
use Rattle.mfotl_model.specs.declared.term.Atom.{Atom as OneAtom}

-- what any strategy for these free variables calls near passes to parts of a row, for each worker
abbrev pub StrategyPasses : Type 0
StrategyPasses =
    (strategy : Strategy) (free : List ℕ) (k : ℕ)
    → ((y : ℕ) → y < length strategy → among y free ≡ true)
    → Passes free (near_of strategy k)

-- so does the region of all rows
abbrev pub EverywherePasses : Type 0
EverywherePasses = (free : List ℕ) → Passes free everywhere

-- and what is in two regions that do
abbrev pub BothPass : Type 0
BothPass =
    (free : List ℕ) (a b : Region) → Passes free a → Passes free b → Passes free (in_both a b)

-- a slice has an event that one of the atoms stands for, where its row is near, exactly if the database
-- has it
abbrev pub SliceSees : Type 0
SliceSees =
    (free : List ℕ) (near : Region) (before after : List OneAtom) (atom : OneAtom) (db : List Event) (v : Valuation)
    → Passes free near → near (variables_in atom.args) v ≡ true
    → has_event (slice near (before ++ atom ∷ after) db) (event_of v atom) ≡ has_event db (event_of v atom)

-- a table that is exact for a region is so for each smaller one
abbrev pub ExactWithin : Type 0
ExactWithin =
    (view : View) (smaller : Region) (f : Form) (i : ℕ) (table : TableOf)
    → ((vs : List ℕ) (v : Valuation) → smaller vs v ≡ true → view.near vs v ≡ true)
    → Exact view f i table → Exact (record view { near = smaller }) f i table

-- tables that are exact one after the other stay so when further ones come behind them
abbrev pub ExactBehind : Type 0
ExactBehind =
    (view : View) (f : Form) (i : ℕ) (tables more : List TableOf)
    → AllExact view f i tables → AllExact view f (i + length tables) more
    → AllExact view f i (tables ++ more)

-- the positions that are counted are settled
abbrev pub CountedSettled : Type 0
CountedSettled = (times : List ℕ) (f : Form) (j : ℕ) → j < settled_count times f → settled times f j ≡ true

-- and the next one isn't
abbrev pub NextUnsettled : Type 0
NextUnsettled =
    (times : List ℕ) (f : Form) → settled_count times f < length times
    → settled times f (settled_count times f) ≡ false

-- timestamps that never fall never fall up to any place
abbrev pub FrontNeverFalls : Type 0
FrontNeverFalls = (times more : List ℕ) → NeverFalls (times ++ more) → NeverFalls times
