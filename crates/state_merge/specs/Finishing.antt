-- When the pieces of all workers were adopted.
use Rattle.std.specs.Prelude.{◌≡◌, ℕ, ◌<◌, true, List, length}
use Rattle.mfotl_model.specs.Numbers.{AllBelow, Apart}
use Rattle.mfotl_model.specs.Regions.{near_of}
use Rattle.mfotl_model.specs.Satisfaction.{Valuation}
use Rattle.mfotl_model.specs.Strategies.{Strategy, workers_of}
use Rattle.mfotl_model.specs.declared.event.TimePoint.{TimePoint}
use Rattle.monitor_state.specs.Pieces.{Merges}
use Rattle.state_merge.specs.MergingView.{MergingOf}

-- there are as many of these workers as the strategy has, no two of them the same, and each row is near to one of the
-- strategy's
pub record AllAdopted (s : Strategy) (ks : List ℕ) : Type 0 where
  pub covers : (vs : List ℕ) (v : Valuation) → (k : ℕ) × (k < workers_of s) × (near_of s k vs v ≡ true)
  pub some : 0 < workers_of s
  pub differ : Apart ks
  pub below : AllBelow (workers_of s) ks
  pub size : length ks ≡ workers_of s

-- what was merged is that of all pieces of a change
abbrev pub IsWhole : MergingOf → Type 0
IsWhole m =
    (s s2 : Strategy) × (k2 : ℕ) × (log : List TimePoint) × (ks : List ℕ) × AllAdopted s ks
    × Merges m.core s s2 k2 log ks m.merged
