-- What may be handed over, or is still missing.
use Rattle.std.specs.Prelude.{ℕ}
use Rattle.mfotl_model.specs.Strategies.{Strategy}
use Rattle.rescale_worker.specs.declared.item.Item.{Item}

-- what stands in a worker's queue: an item that is there, or room for a piece of a generation, whose strategy
-- is told
pub data Chance : Type 0 where
  Sure : Item → Chance
  Open : (generation : ℕ) → (now : Strategy) → Chance

-- how something in a worker's queue stands to the places for pieces: outside of them, in one, or as the last in one
pub data Standing : Type 0 where
  Outside : Standing
  Within : Standing
  Last : Standing
