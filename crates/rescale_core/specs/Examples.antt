-- Worked examples: what is ready at a change of strategy, and up to where there is room.
use Rattle.std.specs.Prelude.{◌≡◌, ℕ, true, false, List, [], ◌∷◌, ◌++◌, replicate}
use Rattle.mfotl_model.specs.Strategies.{Strategy}
use Rattle.mfotl_model.specs.Strategies.Entry.{Hash}
use Rattle.mfotl_model.specs.declared.event.TimePoint.{TimePoint}
use Rattle.monitorable.specs.CoreForms.{CoreForm}
use Rattle.monitor_state.specs.declared.state.Piece.{Piece}
use Rattle.monitor_state.specs.declared.state.State.{State}
use Rattle.rescale_core.specs.Waiting.{is_short}
use Rattle.rescale_worker.specs.Workers.{slice_for}
use Rattle.rescale_core.specs.Worlds.{Step, first_world, ready_in, run_steps}
use Rattle.rescale_core.specs.Worlds.Step.{Collect, Feed, Read, Take}
use Rattle.rescale_worker.specs.declared.item.Entry.TheVariants.{Change, Point}
use Rattle.rescale_worker.specs.declared.item.Item.{Item}
use Rattle.rescale_worker.specs.declared.item.Item.TheVariants.{Adopt, Part, Slice}
use Rattle.rescale_worker.specs.declared.item.Out.TheVariants.{Piece as OfPiece}
use Rattle.rescale_core.specs.declared.slot.Slot.TheVariants.{Ready}

-- two workers, by the variable x, numbered 0
abbrev pub two : Strategy
two = Hash 2 ∷ []

-- and one from the change on
abbrev pub one : Strategy
one = Hash 1 ∷ []

-- the piece that one of the two gives
abbrev pub piece_of : ℕ → State → Piece
piece_of from state = record { generation = 1; from = from; to = 0; count = 2; state = state }

-- what is ready for worker k where a time-point, the change and another time-point were read, and then this happened
abbrev pub ready_behind : CoreForm → TimePoint → TimePoint → ℕ → List Step → List Item
ready_behind core a b k steps =
    ready_in (run_steps (first_world core two) (Read (Point a) ∷ Read (Change one) ∷ Read (Point b) ∷ steps)) k

-- worker k is handed its slice and its part, takes both and gives its piece, which is collected
abbrev pub parts : CoreForm → TimePoint → ℕ → State → List Step
parts core a k state =
    Feed k (Slice 0 0 (slice_for core two k a)) ∷ Feed k (Part 1 two one) ∷ Take k []
    ∷ Take k (OfPiece (piece_of k state) ∷ []) ∷ Collect k ∷ []

-- worker 0 is handed the piece of one of the two
abbrev pub adopts : ℕ → State → List Step
adopts from state = Feed 0 (Adopt (piece_of from state) one) ∷ []

-- At first each of the two may be handed its slice and its part, and nothing behind that. A piece is ready for worker 0
-- once it was collected, and pieces are in the order in which they were. What was read behind the change is ready once
-- both pieces were handed over, and not where both were only collected.
abbrev pub ReadyAtAChange : Type 0
ReadyAtAChange =
    (core : CoreForm) (a b : TimePoint) (s t : State)
    → (ready_behind core a b 0 [] ≡ Slice 0 0 (slice_for core two 0 a) ∷ Part 1 two one ∷ [])
    × (ready_behind core a b 1 [] ≡ Slice 0 0 (slice_for core two 1 a) ∷ Part 1 two one ∷ [])
    × (ready_behind core a b 0 (parts core a 0 s) ≡ Adopt (piece_of 0 s) one ∷ [])
    × (ready_behind core a b 0 (parts core a 0 s ++ adopts 0 s) ≡ [])
    × (ready_behind core a b 0 (parts core a 0 s ++ adopts 0 s ++ parts core a 1 t)
    ≡ Adopt (piece_of 1 t) one ∷ [])
    × (ready_behind core a b 0 (parts core a 0 s ++ adopts 0 s ++ parts core a 1 t ++ adopts 1 t)
    ≡ Slice 1 1 (slice_for core one 0 b) ∷ [])
    × (ready_behind core a b 0 (parts core a 1 t ++ parts core a 0 s)
    ≡ Adopt (piece_of 1 t) one ∷ Adopt (piece_of 0 s) one ∷ [])

-- a queue in which 1,023 items stand has room for one more, and none behind that
abbrev pub RoomForThousand : Type 0
RoomForThousand =
    (item : Item)
    → (is_short (replicate 1023 (Ready item)) ≡ true) × (is_short (replicate 1024 (Ready item)) ≡ false)
