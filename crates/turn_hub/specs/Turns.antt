-- What one side leaves is what the other side finds.
use Rattle.std.specs.Prelude.{◌≡◌, ◌≢◌, ℕ, List, ◌∷◌, length, Option, Some}
use Rattle.atomic_table.specs.Table.{Step}
use Rattle.turn_hub.specs.declared.view.Cell.{Cell}
use Rattle.turn_hub.specs.declared.view.View.{View}
use Rattle.turn_hub.specs.declared.hub.Swap.{Swap}
use Rattle.turn_hub.specs.declared.hub.Swap.TheVariants.{Back, NotYet, Broken}
use Rattle.turn_hub.specs.declared.hub.Served.TheVariants.{Worked, Memory}
use Rattle.turn_hub.specs.Answers.{ServedAs, Swapped}
use Rattle.turn_hub.specs.Steps.{Seated, gives_back}
use Rattle.turn_hub.specs.Words.{main_turn, hand_turn, broken}

-- the answer is that the cell is broken
abbrev pub IsBroken : {I O : Type 0} → Swap I O → Type 0
IsBroken (Broken same) = Unit {0}
IsBroken other = ⊥

-- the answer is that it is the hand's turn
abbrev pub IsNotYet : {I O : Type 0} → Swap I O → Type 0
IsNotYet (NotYet same) = Unit {0}
IsNotYet other = ⊥

-- the answer has what came back
abbrev pub IsBack : {I O : Type 0} → Swap I O → Type 0
IsBack (Back n outs) = Unit {0}
IsBack other = ⊥

-- whose turn it is, and that a cell is broken, are three different words
abbrev pub WordsDiffer : Type 0
WordsDiffer = (main_turn ≢ hand_turn) × (main_turn ≢ broken) × (hand_turn ≢ broken)

module _ {W S I O : Type 0} (told : S → List I → List O → Type 0) (refused : W → Type 0) where
  -- a swap finds a cell broken by the word that a hand left which had no memory
  abbrev pub BrokenIsLeft : Type 0
  BrokenIsLeft = (v w x y : View W S I O) (j k : ℕ) (items : List I) (answer : Swap I O)
      → ServedAs refused v j Memory w → Swapped told k items x answer y → IsBroken answer → y.word ≡ w.left

  -- it takes back by the word that a hand left which worked all
  abbrev pub BackIsLeft : Type 0
  BackIsLeft = (v w x y : View W S I O) (j k n : ℕ) (items : List I) (answer : Swap I O)
      → ServedAs refused v j (Worked n) w → Swapped told k items x answer y → IsBack answer → y.word ≡ w.left

  -- and it is not yet its turn by the word at which a hand works
  abbrev pub NotYetIsWorked : Type 0
  NotYetIsWorked = (v w x y : View W S I O) (j k n : ℕ) (items : List I) (answer : Swap I O)
      → ServedAs refused v j (Worked n) w → Swapped told k items x answer y → IsNotYet answer → y.word ≡ w.word

  -- a hand works by the word that a swap left which handed items over
  abbrev pub GivenIsWorked : Type 0
  GivenIsWorked = (v w x y : View W S I O) (j k n : ℕ) (item : I) (items : List I) (answer : Swap I O)
      → Swapped told k (item ∷ items) x answer y → IsBack answer → ServedAs refused v j (Worked n) w → w.word ≡ y.left

  -- a hand that gives its cell back tells as many items as it had found there
  abbrev pub WorkedIsFound : Type 0
  WorkedIsFound = (st : Step (Option (Cell W I O))) (m m' : Seated W S I O) (v : View W S I O) (found : Cell W I O)
      (j n word : ℕ) → m.0.has ≡ Some found → gives_back st m word m' → ServedAs refused v j (Worked n) m'.0
      → n ≡ length found.items.items
