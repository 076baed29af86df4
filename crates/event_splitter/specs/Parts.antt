-- The parts of a time-point for workers.
use Rattle.std.specs.BTreeSet.{insert_key}
use Rattle.std.specs.Prelude.{ℕ, List, map}
use Rattle.std.specs.List.{range_with_len}
use Rattle.mfotl_model.specs.Events.{event_cmp}
use Rattle.mfotl_model.specs.Regions.{Region}
use Rattle.mfotl_model.specs.Slices.{slice}
use Rattle.mfotl_model.specs.declared.event.Event.{Event}
use Rattle.mfotl_model.specs.declared.event.TimePoint.{TimePoint}
use Rattle.mfotl_model.specs.declared.term.Atom.{Atom as OneAtom}

-- the time-point with those of its events that the region's rows can see
abbrev pub part_for : Region → List OneAtom → TimePoint → TimePoint
part_for near atoms point = record { ts = point.ts; db = slice near atoms point.db }

-- the parts for the first n workers, in their order
abbrev pub parts_for : ℕ → (ℕ → Region) → List OneAtom → TimePoint → List TimePoint
parts_for n near atoms point = map (λ k. part_for (near k) atoms point) (range_with_len 0 n)

-- the time-point with one event more
abbrev pub with_event : Event → TimePoint → TimePoint
with_event event point = record { ts = point.ts; db = insert_key event_cmp point.db event }
