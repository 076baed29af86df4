-- The part of a time-point for a worker that is alone.
use Rattle.std.proofs.Common.{◌≡◌, ◌∙◌, ap, sym, arith, ℕ, ◌<◌, true, List, [], ◌∷◌}
use Rattle.std.specs.List.{filter, list_any}
use Rattle.mfotl_model.proofs.LogicLemmas.{any_alike, funext, with_true}
use Rattle.mfotl_model.specs.{Matching.is_seen, Regions.Region, Satisfaction.Valuation, Slices.sees}
use Rattle.mfotl_model.specs.declared.{event.Event.Event, event.TimePoint.TimePoint, term.Atom.Atom as OneAtom}
use Rattle.event_splitter.specs.Parts.{parts_for}

-- a region that has each row sees each event that some atom stands for
seen_alike : (near : Region) → ((vs : List ℕ) (v : Valuation) → near vs v ≡ true) → (atoms : List OneAtom)
    (event : Event) → list_any (sees near event) atoms ≡ is_seen atoms event
seen_alike near whole atoms event = search (any_alike, with_true)

-- each of some worker's regions has the row
abbrev Covered : (near : ℕ → Region) (count : ℕ) → Type 0
Covered near count = (vs : List ℕ) (v : Valuation) → 0 < count → (k : ℕ) × (k < count) × (near k vs v ≡ true)

only_near : (near : ℕ → Region) (count : ℕ) → count ≡ 1 → Covered near count → (vs : List ℕ) (v : Valuation)
    → near 0 vs v ≡ true
only_near near count one covers vs v =
    let some = covers vs v (omega (arith, one)) in
    let first : some.0 ≡ 0 = let low = some.1 in omega (arith, one, low) in
    ap (λ k. near k vs v) (sym first) ∙ some.2

-- the only worker's part has the events that some atom stands for
pub only_part : (near : ℕ → Region) (count : ℕ) → count ≡ 1 → Covered near count → (atoms : List OneAtom)
    (point : TimePoint) → parts_for count near atoms point
    ≡ record { ts = point.ts; db = filter (is_seen atoms) point.db } ∷ []
only_part near count one covers atoms point =
    grind (arith, funext, seen_alike (near 0) (only_near near count one covers) atoms, only_near near count one covers)
