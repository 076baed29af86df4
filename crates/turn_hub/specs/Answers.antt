-- What a swap and a serve answer, by the view before and after.
use Rattle.std.specs.Prelude.{◌≡◌, ◌≢◌, ℕ, ◌+◌, ◌==◌, List, ◌++◌, length, Some, slice_set}
use mathlib.Core.Option.{some}
use lib.ListN.{get_elem?}
use Rattle.turn_hub.specs.Words.{main_turn, hand_turn, broken, next_turn}
use Rattle.turn_hub.specs.declared.view.Cell.{Cell}
use Rattle.turn_hub.specs.declared.view.Line.{Line}
use Rattle.turn_hub.specs.declared.view.View.{View}
use Rattle.turn_hub.specs.declared.hub.Swap.{Swap}
use Rattle.turn_hub.specs.declared.hub.Swap.TheVariants.{Back, NotYet, Broken}
use Rattle.turn_hub.specs.declared.hub.Served.{Served}
use Rattle.turn_hub.specs.declared.hub.Served.TheVariants.{Worked, NotGiven, Memory}
use Rattle.turn_hub.specs.Steps.{IsLeft}

-- the line once the outs came back and the items were handed over
abbrev pub swapped_line : {S I O : Type 0} → Line S I O → List O → List I → Line S I O
swapped_line l outs items = record {
  seed = l.seed;
  handed = l.handed ++ items;
  back = l.back ++ outs;
  last = length items;
  mine = length items == 0;
}

module _ {W S I O : Type 0} where
  -- the items may be handed over after all that was
  abbrev pub MayHand : (S → List I → Type 0) → View W S I O → ℕ → List I → Type 0
  MayHand may v k items = (l : Line S I O) × (get_elem? v.lines k ≡ some l) × may l.seed (l.handed ++ items)

  -- one look more was made, at the cell k, which found the word n
  abbrev pub LooksOnce : View W S I O → ℕ → ℕ → View W S I O → Type 0
  LooksOnce v k n w = (w.looks ≡ v.looks + 1) × (w.cell ≡ k) × (w.word ≡ n) × (w.made ≡ v.made)

  -- What came back is told of all that was handed over before, one line has changed, and the turn was left with the
  -- hand exactly where there are items. At the other answers the items are those given, no line has changed, and main
  -- had not left the turn with itself
  abbrev pub Swapped : (S → List I → List O → Type 0) → ℕ → List I → View W S I O → Swap I O → View W S I O → Type 0
  Swapped told k items v (Back n outs) w = LooksOnce v k main_turn w
      × ((l : Line S I O) × (get_elem? v.lines k ≡ some l) × (n ≡ l.last)
      × told l.seed l.handed (l.back ++ outs.items)
      × (w.lines ≡ slice_set v.lines k (swapped_line l outs.items items)))
      × (w.left ≡ next_turn items)
  Swapped told k items v (NotYet same) w =
      LooksOnce v k hand_turn w × (same.items ≡ items) × (w.lines ≡ v.lines) × IsLeft v.lines k
  Swapped told k items v (Broken same) w =
      LooksOnce v k broken w × (same.items ≡ items) × (w.lines ≡ v.lines) × IsLeft v.lines k

  -- the hand gave back a cell to whose work memory was refused
  abbrev pub GaveRefused : (W → Type 0) → View W S I O → Type 0
  GaveRefused refused v = (c : Cell W I O) × (v.gave_back ≡ Some c) × refused c.work

  -- The cell was given back with the word of main's turn after as many items as lay there, or was marked broken
  -- since memory was refused to its work, or it was not the hand's turn
  abbrev pub ServedAs : (W → Type 0) → View W S I O → ℕ → Served → View W S I O → Type 0
  ServedAs refused v k (Worked n) w = LooksOnce v k hand_turn w × (n ≡ w.worked) × (w.left ≡ main_turn)
  ServedAs refused v k NotGiven w = (w.word ≢ hand_turn) × LooksOnce v k w.word w × (w.worked ≡ v.worked)
      × (w.left ≡ v.left) × (w.gave_back ≡ v.gave_back)
  ServedAs refused v k Memory w = LooksOnce v k hand_turn w × (w.left ≡ broken) × GaveRefused refused w
