-- Entries that may be read one after the other.
use Rattle.std.specs.Prelude.{ℕ, ◌≤◌, List, length}
use Rattle.mfotl_model.specs.Log.{times}
use Rattle.mfotl_model.specs.Strategies.{Strategy}
use Rattle.mfotl_model.specs.Times.{Climbs}
use Rattle.monitorable.specs.CoreForms.{CoreForm}
use Rattle.rescale_worker.specs.Lines.{AreSound, first_spot, spot_after}
use Rattle.rescale_worker.specs.declared.item.Entry.{Entry}

-- the entries may be read under each first strategy, and no time-point of them is later than `last`
pub record AreReadable (core : CoreForm) (entries : List Entry) (last : ℕ) : Type 0 where
  pub sound : (s : Strategy) → AreSound core (first_spot s) entries
  pub rises : (s : Strategy) → Climbs 0 (times (spot_after (first_spot s) entries).points) last
  pub few : (s : Strategy) → length (spot_after (first_spot s) entries).points ≤ length entries
