-- The words of a cell.
use Rattle.std.specs.Prelude.{ℕ, List, [], ◌∷◌}

-- it is main's turn
abbrev pub main_turn : ℕ
main_turn = 0

-- it is the hand's turn
abbrev pub hand_turn : ℕ
hand_turn = 1

-- it is main's turn, and the cell is broken
abbrev pub broken : ℕ
broken = 2

-- whose turn it is once these items were handed over: the hand's exactly where there are some
abbrev pub next_turn : {I : Type 0} → List I → ℕ
next_turn [] = main_turn
next_turn (item ∷ items) = hand_turn
