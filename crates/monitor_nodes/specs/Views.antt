-- What a view of the log tells: how far a formula is settled, and lists that agree with the log.
use Rattle.std.specs.Prelude.{◌≡◌, ℕ, ◌<◌, Bool, List, length}
use Rattle.mfotl_model.specs.Counts.{settled_count}
use Rattle.mfotl_model.specs.Exact.{View}
use Rattle.mfotl_model.specs.Log.{times}
use Rattle.mfotl_model.specs.Satisfaction.{Valuation, sat, time_at, truth_at}
use Rattle.mfotl_model.specs.declared.value.Value.{Value}
use Rattle.monitorable.specs.CoreForms.{CoreForm, meaning}

-- at how many positions of the log the core is settled
abbrev pub reached : View → CoreForm → ℕ
reached view f = settled_count (times view.log) (meaning f)

-- the list begins with the log's timestamps
abbrev pub Dates : View → List ℕ → Type 0
Dates view t = (j : ℕ) → j < length view.log → time_at t j ≡ time_at (times view.log) j

-- the list has whether the core holds of the valuation, at each position at which that is settled
abbrev pub Tells : View → List Value → Valuation → CoreForm → List Bool → Type 0
Tells view dom v f a = (j : ℕ) → j < reached view f → truth_at a j ≡ sat view.log dom v j (meaning f)
