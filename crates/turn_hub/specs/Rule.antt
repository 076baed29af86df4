-- The rule of the table: what holds of the words, the cells and all views between any two steps.
use Rattle.std.specs.Prelude.{◌≡◌, ◌≢◌, ℕ, ◌<◌, ◌⊎◌, List, [], ◌++◌, length, Option, Some, None, true, slice_index}
use mathlib.Core.Option.{some}
use mathlib.Core.Option as maybe
use lib.ListN.{get_elem?}
use Rattle.atomic_table.specs.Table.{State}
use Rattle.turn_hub.specs.Words.{main_turn, hand_turn, broken}
use Rattle.turn_hub.specs.declared.view.Cell.{Cell}
use Rattle.turn_hub.specs.declared.view.Line.{Line}
use Rattle.turn_hub.specs.declared.view.View.{View}

-- the slots' values, where they are at home
abbrev pub Homes : Type 0 → Type 0
Homes C = List (maybe.Option (Option C))

-- the slot k is at home with a cell of which P holds
abbrev pub Rests : {C : Type 0} → Homes C → ℕ → (C → Type 0) → Type 0
Rests {C} homes k P = (c : C) × (get_elem? homes k ≡ some (some (Some c))) × P c

-- the hand of the cell k has the cell
abbrev pub Out : {W S I O : Type 0} → List (View W S I O) → ℕ → Type 0
Out {W} {S} {I} {O} views k = (j : ℕ) × (v : View W S I O) × (get_elem? views j ≡ some v)
    × (v.number ≡ Some k) × (v.has ≢ None)

module _ {W S I O : Type 0} (stands : S → List I → List O → W → Type 0) where
  -- all that was handed over was worked: the work stands for it, and for what main has with what lies in the cell
  abbrev pub Ready : Line S I O → Cell W I O → Type 0
  Ready l c = stands l.seed l.handed (l.back ++ c.outs.items) c.work × (c.count ≡ l.last)
      × (l.mine ≡ true → c.outs.items ≡ [])

  -- the items in the cell are all that was not worked
  abbrev pub Due : Line S I O → Cell W I O → Type 0
  Due l c = (taken : List I) × (l.handed ≡ taken ++ c.items.items) × stands l.seed taken l.back c.work
      × (c.outs.items ≡ []) × (c.count ≡ l.last)

  -- the word of the cell k is n, and P holds of its line and the cell
  abbrev pub Has : List ℕ → List (Line S I O) → ℕ → ℕ → Cell W I O → (Line S I O → Cell W I O → Type 0) → Type 0
  Has words lines k n c P = (l : Line S I O) × (get_elem? lines k ≡ some l) × (slice_index words k ≡ n) × P l c

  module _ (may : S → List I → Type 0) (refused : W → Type 0) where
    -- The cell k, whose word is n. A broken one is at home, and memory was refused to its work
    pub record CellOk (homes : Homes (Cell W I O)) (views : List (View W S I O)) (main : View W S I O) (k n : ℕ)
        (l : Line S I O) : Type 0 where
      pub known : n < 3
      pub allowed : may l.seed l.handed
      pub mine : l.mine ≡ true → n ≡ main_turn
      pub ready : n ≡ main_turn → Rests homes k (Ready l) ⊎ ((main.has ≢ None) × (main.cell ≡ k))
      pub due : n ≡ hand_turn → Rests homes k (Due l) ⊎ Out views k
      pub marked : n ≡ broken → Rests homes k (λ c. refused c.work)

    -- the hand of the cell k was made, and where it has the cell, the word is the hand's
    pub record HandOk (words : List ℕ) (main : View W S I O) (v : View W S I O) (k : ℕ) : Type 0 where
      pub below : k < main.made
      pub has : (c : Cell W I O) → v.has ≡ Some c → Has words main.lines k hand_turn c Due

    -- There is one main, and each cell has at most one hand. Where main has a cell, the word is main's
    pub record Ruled (s : State (Option (Cell W I O)) (View W S I O)) : Type 0 where
      pub main : View W S I O
      pub first : get_elem? s.views 0 ≡ some main
      pub no_hand : main.number ≡ None
      pub wide : length s.words ≡ length s.homes
      pub lined : length main.lines ≡ length s.homes
      pub has : (c : Cell W I O) → main.has ≡ Some c → Has s.words main.lines main.cell main_turn c Ready
      pub each_cell : (k : ℕ) (l : Line S I O) → get_elem? main.lines k ≡ some l
          → CellOk s.homes s.views main k (slice_index s.words k) l
      pub each_hand : (j : ℕ) (v : View W S I O) (k : ℕ) → get_elem? s.views j ≡ some v → v.number ≡ Some k
          → HandOk s.words main v k
      pub once : (i j : ℕ) (v w : View W S I O) (k : ℕ) → get_elem? s.views i ≡ some v → get_elem? s.views j ≡ some w
          → v.number ≡ Some k → w.number ≡ Some k → i ≡ j
