-- Timestamps that never fall.
use Rattle.std.specs.Prelude.{ℕ, ◌≤◌, ◌<◌, List, [], ◌∷◌, length}
use Rattle.mfotl_model.specs.Satisfaction.{time_at}

-- no timestamp lies below an earlier one
abbrev pub NeverFalls : List ℕ → Type 0
NeverFalls times = (i j : ℕ) → i ≤ j → j < length times → time_at times i ≤ time_at times j

-- the timestamps never fall from x on, up to y
abbrev pub Climbs : ℕ → List ℕ → ℕ → Type 0
Climbs x [] y = x ≤ y
Climbs x (t ∷ ts) y = (x ≤ t) × Climbs t ts y
