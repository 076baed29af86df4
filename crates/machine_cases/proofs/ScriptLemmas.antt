-- Entries that follow one another may be read.
use Rattle.std.proofs.Common.{◌≡◌, ◌∙◌, ℕ, zero, suc, ◌+◌, ◌≤◌, ◌<◌, ◌^◌, List, [], ◌∷◌, ◌++◌, length, subst, sym, ap}
use Rattle.std.proofs.Common.{arith, length-append}
use Rattle.std.proofs.lemmas.List.{map-append}
use Rattle.mfotl_model.proofs.TimeLemmas.{climbs_push}
use Rattle.mfotl_model.specs.{Log.times, Satisfaction.time_at, Strategies.Strategy, Times.Climbs, Times.NeverFalls}
use Rattle.mfotl_model.specs.declared.event.TimePoint.{TimePoint}
use Rattle.monitorable.specs.CoreForms.{CoreForm}
use Rattle.rescale_core.proofs.WorldLemmas.{sound_more, spot_more}
use Rattle.rescale_worker.specs.Lines.{Spot, first_spot, spot_after}
use Rattle.rescale_worker.specs.Workers.{IsFor}
use Rattle.rescale_worker.specs.declared.{item.Entry.Entry, item.Entry.TheVariants.Point, item.Entry.TheVariants.Change}
use Rattle.machine_cases.specs.Scripts.{AreReadable}

lowest : (least : ℕ) (ts : List ℕ) (last : ℕ) → Climbs least ts last → (j : ℕ) → j < length ts → least ≤ time_at ts j
lowest least [] last rises j within = absurd (omega arith)
lowest least (t ∷ ts) last rises zero within = rises.0
lowest least (t ∷ ts) last rises (suc j) within =
    let here : least ≤ t = rises.0 in
    let later : t ≤ time_at ts j = lowest t ts last rises.1 j (omega arith) in
    omega arith

rising : (least : ℕ) (ts : List ℕ) (last : ℕ) → Climbs least ts last → NeverFalls ts
rising least [] last rises i j before within = absurd (omega arith)
rising least (t ∷ ts) last rises zero zero before within = omega arith
rising least (t ∷ ts) last rises zero (suc j) before within = lowest t ts last rises.1 j (omega arith)
rising least (t ∷ ts) last rises (suc i) zero before within = absurd (omega arith)
rising least (t ∷ ts) last rises (suc i) (suc j) before within =
    rising t ts last rises.1 i j (omega arith) (omega arith)

-- the time-points behind one entry more
points_more : (s : Strategy) (es : List Entry) (p : TimePoint)
    → (spot_after (first_spot s) (es ++ Point p ∷ [])).points ≡ (spot_after (first_spot s) es).points ++ p ∷ []
points_more s es p = ap (λ (a : Spot). a.points) (spot_more (first_spot s) es (Point p ∷ []))

points_same : (s : Strategy) (es : List Entry) (t : Strategy)
    → (spot_after (first_spot s) (es ++ Change t ∷ [])).points ≡ (spot_after (first_spot s) es).points
points_same s es t = ap (λ (a : Spot). a.points) (spot_more (first_spot s) es (Change t ∷ []))

module _ (core : CoreForm) (es : List Entry) (last : ℕ) (is : AreReadable core es last) where
  rises_more : (s : Strategy) (p : TimePoint) → last ≤ p.ts
      → Climbs 0 (times ((spot_after (first_spot s) es).points ++ p ∷ [])) p.ts
  rises_more s p later =
      let ps = (spot_after (first_spot s) es).points in
      subst (λ ts. Climbs 0 ts p.ts) (sym (map-append (λ (q : TimePoint). q.ts) ps (p ∷ [])))
      (climbs_push 0 (times ps) last p.ts (is.rises s) later)

  -- a time-point is put behind entries
  pub script_reads : (p : TimePoint) → last ≤ p.ts → length es < 2 ^ 63 → AreReadable core (es ++ Point p ∷ []) p.ts
  script_reads p later room = record {
    sound = λ s. sound_more core (first_spot s) es (Point p) (is.sound s) (record {
      room = let few = is.few s in omega arith;
      rising = rising 0 _ p.ts (rises_more s p later);
    });
    rises = λ s. subst (λ ps. Climbs 0 (times ps) p.ts) (sym (points_more s es p)) (rises_more s p later);
    few = λ s.
        let few = is.few s in
        let points = ap length (points_more s es p) ∙ length-append _ (p ∷ []) in
        let entries = length-append es (Point p ∷ []) in
        omega arith;
  }

  -- a change is put behind entries
  pub script_changes : (t : Strategy) → IsFor core t → AreReadable core (es ++ Change t ∷ []) last
  script_changes t fits = record {
    sound = λ s. sound_more core (first_spot s) es (Change t) (is.sound s) fits;
    rises = λ s. subst (λ ps. Climbs 0 (times ps) last) (sym (points_same s es t)) (is.rises s);
    few = λ s.
        let few = is.few s in
        let points = ap length (points_same s es t) in
        let entries = length-append es (Change t ∷ []) in
        omega arith;
  }
