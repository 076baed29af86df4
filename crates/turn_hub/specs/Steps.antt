-- The views at the start, and what each step on a word does to the view of who makes it.
use Rattle.std.specs.Prelude.{◌≡◌, ◌≢◌, ℕ, ◌+◌, ◌<◌, ◌==◌, List, [], ◌∷◌, ◌++◌, map, length, Option, Some, None}
use Rattle.std.specs.Prelude.{true, false, slice_set}
use mathlib.Core.Option.{some}
use lib.ListN.{get_elem?}
use Rattle.atomic_table.specs.Table.{Me, Step, rest}
use Rattle.turn_hub.specs.Words.{main_turn, hand_turn}
use Rattle.turn_hub.specs.declared.view.Cell.{Cell}
use Rattle.turn_hub.specs.declared.view.Line.{Line}
use Rattle.turn_hub.specs.declared.view.View.{View}
use Rattle.turn_hub.specs.Work.{Takes}
use Rattle.turn_hub.specs.Rule.{Ready}

-- a view with the slots that are out with its seat
abbrev pub Seated : Type 0 → Type 0 → Type 0 → Type 0 → Type 0
Seated W S I O = Me (Option (Cell W I O)) (View W S I O)

-- a cell of which main has handed over nothing yet
abbrev pub started : {S I O : Type 0} → S → Line S I O
started s = record { seed = s; handed = []; back = []; last = 0; mine = true }

-- main's view of a new hub
abbrev pub first_view : {W S I O : Type 0} → (W → S) → List W → View W S I O
first_view seed works = record {
  lines = map (λ w. started (seed w)) works;
  made = 0;
  looks = 0;
  cell = 0;
  word = 0;
  number = None;
  worked = 0;
  left = 0;
  gave_back = None;
  has = None;
}

-- main did not leave the turn of the cell k with itself
abbrev pub IsLeft : {S I O : Type 0} → List (Line S I O) → ℕ → Type 0
IsLeft {S} {I} {O} lines k = (l : Line S I O) × (get_elem? lines k ≡ some l) × (l.mine ≡ false)

module _ {W S I O : Type 0} where
  -- one look more, at the cell k, which found the word n
  abbrev pub looked : View W S I O → ℕ → ℕ → Option (Cell W I O) → View W S I O
  looked v k n c = record {
    lines = v.lines;
    made = v.made;
    looks = v.looks + 1;
    cell = k;
    word = n;
    number = v.number;
    worked = v.worked;
    left = v.left;
    gave_back = v.gave_back;
    has = c;
  }

  -- a hand's view once it has left its cell as c with the word n after m items
  abbrev pub emptied : View W S I O → ℕ → ℕ → Cell W I O → View W S I O
  emptied v n m c = record {
    lines = v.lines;
    made = v.made;
    looks = v.looks;
    cell = v.cell;
    word = v.word;
    number = v.number;
    worked = m;
    left = n;
    gave_back = Some c;
    has = None;
  }

  -- main's line of a cell that was found as c and left as c' with the word n
  abbrev pub handed_over : Line S I O → Cell W I O → Cell W I O → ℕ → Line S I O
  handed_over l c c' n = record {
    seed = l.seed;
    handed = l.handed ++ c'.items.items;
    back = l.back ++ c.outs.items;
    last = length c'.items.items;
    mine = n == main_turn;
  }

  -- main's view with another line of the cell k, once it has left the cell with the word n
  abbrev pub with_line : View W S I O → ℕ → ℕ → Line S I O → View W S I O
  with_line v k n l = record {
    lines = slice_set v.lines k l;
    made = v.made;
    looks = v.looks;
    cell = v.cell;
    word = v.word;
    number = v.number;
    worked = v.worked;
    left = n;
    gave_back = v.gave_back;
    has = None;
  }

  -- main's view with one hand more
  abbrev pub one_more : View W S I O → View W S I O
  one_more v = record {
    lines = v.lines;
    made = v.made + 1;
    looks = v.looks;
    cell = v.cell;
    word = v.word;
    number = v.number;
    worked = v.worked;
    left = v.left;
    gave_back = v.gave_back;
    has = v.has;
  }

  -- the view of the hand that main makes next
  abbrev pub new_hand : View W S I O → View W S I O
  new_hand v = record {
    lines = [];
    made = 0;
    looks = 0;
    cell = 0;
    word = 0;
    number = Some v.made;
    worked = 0;
    left = 0;
    gave_back = None;
    has = None;
  }

  -- main's view is the same once a hand was joined to it
  abbrev pub joined : View W S I O → View W S I O → View W S I O
  joined v w = v

  -- what is left of a hand that was joined
  abbrev pub spent : View W S I O
  spent = record {
    lines = [];
    made = 0;
    looks = 0;
    cell = 0;
    word = 0;
    number = None;
    worked = 0;
    left = 0;
    gave_back = None;
    has = None;
  }

  -- A look at the word k, which found n. Where n is `turn`, the seat has the cell, and P holds of it
  abbrev pub Looks : ℕ → (Cell W I O → Type 0) → ℕ → Seated W S I O → ℕ → Seated W S I O → Type 0
  Looks turn P k m n m' =
      (n ≡ turn → (c : Cell W I O) × (m' ≡ (looked m.0 k n (Some c), (k, Some c) ∷ m.1)) × P c)
      × (n ≢ turn → m' ≡ (looked m.0 k n None, m.1))
      × (n < 3)

  -- the cell is ready by its line
  abbrev pub ReadyAt : (S → List I → List O → W → Type 0) → List (Line S I O) → ℕ → Cell W I O → Type 0
  ReadyAt stands lines k c = (l : Line S I O) × (get_elem? lines k ≡ some l) × Ready stands l c

  -- main's look: where the turn is main's it has the cell, which is ready, and else it had not kept the turn
  abbrev pub main_looks : (S → List I → List O → W → Type 0) → Step (Option (Cell W I O)) → Seated W S I O → ℕ
      → Seated W S I O → Type 0
  main_looks stands st m n m' =
      Looks main_turn (ReadyAt stands m.0.lines st.word) st.word m n m' × (n ≢ main_turn → IsLeft m.0.lines st.word)

  -- a hand's look: where the turn is the hand's it has the cell, whose work takes the items beside it
  abbrev pub hand_looks : (S → List I → List O → W → Type 0) → (S → List I → Type 0) → Step (Option (Cell W I O))
      → Seated W S I O → ℕ → Seated W S I O → Type 0
  hand_looks stands may st m n m' =
      Looks hand_turn (λ c. Takes stands may c.work c.items.items × (c.outs.items ≡ [])) st.word m n m'

  -- main's store: the line of the cell has what came back and what was handed over, and the view the word that it left
  abbrev pub hands_over : Step (Option (Cell W I O)) → Seated W S I O → ℕ → Seated W S I O → Type 0
  hands_over st m n m' = (l : Line S I O) × (c : Cell W I O) × (c' : Cell W I O)
      × (get_elem? m.0.lines st.word ≡ some l) × (m.0.has ≡ Some c) × (m.1 ≡ (st.word, Some c') ∷ rest m.1)
      × (m' ≡ (with_line m.0 st.word st.first (handed_over l c c' st.first), rest m.1))

  -- a hand's store: its view has the word and the cell that it left, and how many items it had found
  abbrev pub gives_back : Step (Option (Cell W I O)) → Seated W S I O → ℕ → Seated W S I O → Type 0
  gives_back st m n m' = (c : Cell W I O) × (c' : Cell W I O) × (m.0.has ≡ Some c)
      × (m.1 ≡ (st.word, Some c') ∷ rest m.1)
      × (m' ≡ (emptied m.0 st.first (length c.items.items) c', rest m.1))
