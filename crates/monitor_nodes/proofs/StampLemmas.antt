-- The timestamps that a state knows, as positions are pushed and pulled.
use Rattle.std.proofs.Common.{◌≡◌, ℕ, ◌+◌, ◌-◌, ◌≤◌, List, [], ◌∷◌, ◌++◌, length}
use Rattle.std.proofs.Common.{drop, ap₂, arith}
use Rattle.std.proofs.lemmas.List.{drop-append-le, drop-drop, length-map}
use Rattle.mfotl_model.specs.{Exact.View, Log.times, Times.NeverFalls}
use Rattle.mfotl_model.specs.declared.event.TimePoint.{TimePoint}
use Rattle.monitor_nodes.proofs.ExactLemmas.{times_more}
use Rattle.monitor_nodes.specs.{PreviousFeeding.tables_used, Stamps.stamps, Steps.longer}

-- a timestamp was pushed
pub stamps_pushed : (p last ts : ℕ) (times : List ℕ) → stamps p last (times ++ ts ∷ []) ≡ stamps p last times ++ ts ∷ []
stamps_pushed p last ts times = grind arith

-- n positions further on they are the log's from there on
pub stamps_moved : (p n q : ℕ) (all old new : List ℕ) → q ≡ p + n → old ≡ drop (p - 1) all
    → new ≡ drop (tables_used p n) old → new ≡ drop (q - 1) all
stamps_moved p n q all old new at stands is = grind (arith, drop-drop)

-- the log's timestamps from a place on, with one more
pub from_more : (view : View) (point : TimePoint) → NeverFalls (times (longer view point).log)
    → (p ts : ℕ) (old : List ℕ) → ts ≡ point.ts → p ≤ length view.log → old ≡ drop p (times view.log)
    → old ++ ts ∷ [] ≡ drop p (times (longer view point).log)
from_more view point rising p ts old ts_is inside is = grind (arith, length-map, ap₂, drop-append-le, times_more)

-- those that a state knows, with one more
pub known_more : (view : View) (point : TimePoint) → NeverFalls (times (longer view point).log)
    → (p ts : ℕ) (old : List ℕ) → ts ≡ point.ts → p - 1 ≤ length view.log → old ≡ drop (p - 1) (times view.log)
    → old ++ ts ∷ [] ≡ drop (p - 1) (times (longer view point).log)
known_more view point rising p ts old ts_is inside is = from_more view point rising (p - 1) ts old ts_is inside is
