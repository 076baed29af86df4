-- Which tables are exact for a region of rows.
use Rattle.std.specs.Prelude.{◌≡◌, ℕ, ◌+◌, true, List, [], ◌∷◌}
use Rattle.mfotl_model.specs.ActiveDomain.{adom}
use Rattle.mfotl_model.specs.Domains.{Includes}
use Rattle.mfotl_model.specs.FreeVariables.{fv}
use Rattle.mfotl_model.specs.Formulas.{Form}
use Rattle.mfotl_model.specs.Regions.{Region}
use Rattle.mfotl_model.specs.Satisfaction.{Valuation, sat}
use Rattle.mfotl_model.specs.Tables.{TableOf, has}
use Rattle.mfotl_model.specs.declared.event.TimePoint.{TimePoint}
use Rattle.mfotl_model.specs.declared.value.Value.{Value}

-- what tables are held against: the rows that count, the log, and the formula that is monitored
pub record View : Type 0 where
  pub near : Region
  pub log : List TimePoint
  pub whole : Form

-- whether quantified variables may range over the domain: it has each value of the log and of the formula
abbrev pub Covers : View → List Value → Type 0
Covers view dom = Includes dom (adom view.log view.whole)

-- the table is over the formula's free variables, and of the near rows it has exactly those that satisfy
-- the formula at the position, whatever domain the quantifiers range over; nothing is said of other rows
pub record Exact (view : View) (f : Form) (i : ℕ) (table : TableOf) : Type 0 where
  pub columns : table.columns ≡ fv f
  pub rows : (dom : List Value) (v : Valuation) → Covers view dom → view.near (fv f) v ≡ true
      → has table v ≡ sat view.log dom v i f

-- tables that are exact for one position after the other, the first of them for i
abbrev pub AllExact : View → Form → ℕ → List TableOf → Type 0
AllExact view f i [] = Unit {0}
AllExact view f i (table ∷ tables) = Exact view f i table × AllExact view f (i + 1) tables
