-- What a caller has: the hub, main's end and the hands.
use Rattle.std.specs.Prelude.{◌≡◌, ℕ, ◌<◌, List, [], length, Option, Some, None, true}
use mathlib.Core.Option.{some}
use lib.ListN.{get_elem?}
use Rattle.atomic_table.specs.Seated.{TableId}
use Rattle.turn_hub.specs.declared.view.Cell.{Cell}
use Rattle.turn_hub.specs.declared.view.Line.{Line}
use Rattle.turn_hub.specs.declared.view.View.{View}
use Rattle.turn_hub.specs.declared.hub.Hub.{Hub}
use Rattle.turn_hub.specs.declared.hub.Main.{Main}
use Rattle.turn_hub.specs.declared.hub.Hand.{Hand}

module _ {W S I O : Type 0} where
  -- which hub it is
  abbrev pub hub_id : Hub W I O S → TableId
  hub_id hub = hub.table.shared.table_id

  -- the number of its cells
  abbrev pub cell_count : Hub W I O S → ℕ
  cell_count hub = (hub_id hub).slots

  -- what main knows
  abbrev pub main_view : Main W I O S → View W S I O
  main_view main = main.seat.me.0

  -- what a hand knows
  abbrev pub hand_view : Hand W I O S → View W S I O
  hand_view hand = hand.seat.me.0

  -- the number of a hand's cell
  abbrev pub hand_cell : Hand W I O S → ℕ
  hand_cell hand = hand.cell

  -- main's end is of this hub, has no cell, and knows a line of each
  abbrev pub IsMainOf : Hub W I O S → Main W I O S → Type 0
  IsMainOf hub main = (main.seat.table_id ≡ hub_id hub) × (main.seat.id ≡ 0) × (main.seat.me.1 ≡ [])
      × ((main_view main).has ≡ None) × (length (main_view main).lines ≡ cell_count hub)

  -- the hand is of this hub, and does not have its cell
  abbrev pub IsHandOf : Hub W I O S → Hand W I O S → Type 0
  IsHandOf hub hand = (hand.seat.table_id ≡ hub_id hub) × (hand.seat.me.1 ≡ []) × ((hand_view hand).has ≡ None)
      × ((hand_view hand).number ≡ Some (hand_cell hand)) × (hand_cell hand < cell_count hub)

  -- they are the hands of the cells, in the order of the cells
  abbrev pub AreInOrder : List (Hand W I O S) → Type 0
  AreInOrder hands = (k : ℕ) (h : Hand W I O S) → get_elem? hands k ≡ some h → hand_cell h ≡ k

  -- each is the hub's hand of the cell of its place
  abbrev pub AreHands : Hub W I O S → List (Hand W I O S) → Type 0
  AreHands hub hands = (k : ℕ) (h : Hand W I O S) → get_elem? hands k ≡ some h → (hand_cell h ≡ k) × IsHandOf hub h

  -- main left each turn with itself
  abbrev pub AllMine : View W S I O → Type 0
  AllMine v = (k : ℕ) (l : Line S I O) → get_elem? v.lines k ≡ some l → l.mine ≡ true

-- each work stands for its seed and two empty lists
abbrev pub Starts : {W S I O : Type 0} → (S → List I → List O → W → Type 0) → (W → S) → List W → Type 0
Starts {W} stands seed works = (k : ℕ) (w : W) → get_elem? works k ≡ some w → stands (seed w) [] [] w

-- for each line there is a work in its place, which stands for its seed and two lists
abbrev pub StandEach : {W S I O : Type 0} → (S → List I → List O → W → Type 0) → List (Line S I O) → List W → Type 0
StandEach {W} {S} {I} {O} stands lines works = (length works ≡ length lines)
    × ((k : ℕ) (l : Line S I O) → get_elem? lines k ≡ some l
    → (w : W) × (get_elem? works k ≡ some w) × stands l.seed l.handed l.back w)

-- the slot k has the work w, to which nothing was handed
abbrev pub IsFresh : {W I O : Type 0} → List (Option (Cell W I O)) → ℕ → W → Type 0
IsFresh {W} {I} {O} slots k w = (c : Cell W I O) × (get_elem? slots k ≡ some (Some c)) × (c.work ≡ w)
    × (c.count ≡ 0) × (c.outs.items ≡ [])

-- each slot has a cell
abbrev pub AllHaveCells : {W I O : Type 0} → List (Option (Cell W I O)) → Type 0
AllHaveCells {W} {I} {O} slots = (k : ℕ) → k < length slots → (c : Cell W I O) × (get_elem? slots k ≡ some (Some c))

-- each slot's work
abbrev pub HaveWorks : {W I O : Type 0} → List (Option (Cell W I O)) → List W → Type 0
HaveWorks {W} {I} {O} slots works = (length works ≡ length slots)
    × ((k : ℕ) (c : Cell W I O) → get_elem? slots k ≡ some (Some c) → get_elem? works k ≡ some c.work)
