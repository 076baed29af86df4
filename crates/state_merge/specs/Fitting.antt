-- States of one log can be united.
use Rattle.std.specs.Prelude.{ℕ, List, Some}
use Rattle.mfotl_model.specs.Exact.{View}
use Rattle.mfotl_model.specs.Regions.{Region}
use Rattle.mfotl_model.specs.Strategies.{Strategy}
use Rattle.mfotl_model.specs.declared.event.TimePoint.{TimePoint}
use Rattle.monitorable.specs.CoreForms.{CoreForm}
use Rattle.monitor_state.specs.Pieces.{Merges, PieceStands}
use Rattle.monitor_state.specs.StateInside.{StandsInside}
use Rattle.monitor_state.specs.StateLaws.{seen_in}
use Rattle.monitor_state.specs.declared.state.Piece.{Piece}
use Rattle.monitor_state.specs.declared.state.State.{State}
use Rattle.state_merge.specs.Fits.{CanBeUnited}

-- two states that stand for one log fit, in whatever regions they do
abbrev pub StatesFit : Type 0
StatesFit = (view : View) (core : CoreForm) (r q : Region) (a b : State) → StandsInside (seen_in view r) core a
    → StandsInside (seen_in view q) core b → CanBeUnited a b

-- a piece fits what was merged of others
abbrev pub PiecesFit : Type 0
PiecesFit =
    (core : CoreForm) (s s2 : Strategy) (k2 : ℕ) (log : List TimePoint) (ks : List ℕ) (k : ℕ) (state : State)
    (piece : Piece) → Merges core s s2 k2 log ks (Some state) → PieceStands core s k s2 k2 log piece
    → CanBeUnited state piece.state
