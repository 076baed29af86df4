-- Entries in order as seen from a position: one more at the end, and a search among them.
use Rattle.std.proofs.Common.{◌≡◌, ℕ, zero, suc, ◌-◌, ◌<◌, ◌≤◌, max, true, false, nat_lt, List, [], ◌∷◌, ◌++◌, length}
use Rattle.std.proofs.Common.{Bool, drop, slice_index_or, get_or, sym, ap, ◌∙◌, arith, inl, inr}
use Rattle.std.proofs.{lemmas.Bool.cases_lt, lemmas.Bool.Decides.nat_tests}
use Rattle.std.proofs.lemmas.List.{get_or_default, get_or_push, length_push}
use Rattle.std.proofs.lemmas.List.Folds.{list_all_at, list_any_at, list_any_none}
use Rattle.std.proofs.lemmas.List.Sorted.{IsNonDecreasingBy-drop, IsNonDecreasingBy-push, IsNonDecreasingBy-short}
use Rattle.std.specs.List.Sorted.{IsNonDecreasingBy, IsPartitionPoint}
use Rattle.mfotl_model.specs.declared.interval.Interval.{Interval}
use Rattle.until_rows.specs.declared.entries.Entry.{Entry}
use Rattle.until_rows.specs.Entries.{is_far, meets, met_by}
use Rattle.until_rows.specs.{Levels.AreKept, Levels.RiseFrom, Rules.PlacesAscend}
use Rattle.until_rows.proofs.EntriesLemmas.{ascend_rest}

-- what rises as seen from a position does so as seen from a later one
pub rise_later : (p q : ℕ) (es : List Entry) → p ≤ q → RiseFrom p es → RiseFrom q es
rise_later p q es l rise = record {
  times = rise.times;
  starts = λ i j d m n. (let s = rise.starts i j d m n in omega arith);
}

pub one_rises : (p : ℕ) (e : Entry) → RiseFrom p (e ∷ [])
one_rises p e = record {
  times = IsNonDecreasingBy-short (λ f. f.ts) (e ∷ []) (omega arith);
  starts = IsNonDecreasingBy-short (λ f. max f.start p) (e ∷ []) (omega arith);
}

-- what was pushed is the last one
pub last_pushed : (es : List Entry) (e : Entry)
    → (0 < length (es ++ e ∷ [])) × (e ≡ slice_index_or (es ++ e ∷ []) (length (es ++ e ∷ []) - 1) e)
last_pushed es e =
    let more = length_push es e in
    (omega arith, sym (get_or_push es e e (length (es ++ e ∷ []) - 1) (omega arith)))

-- without the first one
pub kept_rest : (level : ℕ) (es : List Entry) → AreKept level es → AreKept level (drop 1 es)
kept_rest level es kept = record {
  places = ascend_rest es kept.places;
  rising = λ low. record {
    times = IsNonDecreasingBy-drop (λ f. f.ts) 1 es (kept.rising low).times;
    starts = IsNonDecreasingBy-drop (λ f. max f.start level) 1 es (kept.rising low).starts;
  };
}

-- one more behind the last one
pub rise_push : (p : ℕ) (es : List Entry) (last e : Entry) → 0 < length es
    → last ≡ slice_index_or es (length es - 1) last → last.ts ≤ e.ts → max last.start p ≤ max e.start p
    → RiseFrom p es → RiseFrom p (es ++ e ∷ [])
rise_push p es last e some is times starts rise =
    let same : (d : Entry) → get_or es (length es - 1) d ≡ last = λ d.
    get_or_default es (length es - 1) d last (omega arith) ∙ sym is in
    record {
      times = IsNonDecreasingBy-push (λ f. f.ts) es e rise.times (λ d l. rw (same d) times);
      starts = IsNonDecreasingBy-push (λ f. max f.start p) es e rise.starts (λ d l. rw (same d) starts);
    }

-- ascending positions don't fall
places_rise : (es : List Entry) → PlacesAscend es → IsNonDecreasingBy (λ e. e.place) es
places_rise [] up i j d l m = absurd (omega arith)
places_rise (e ∷ es) up zero zero d l m = omega arith
places_rise (e ∷ es) up zero (suc j) d l m =
    grind (arith, nat_tests, list_all_at (λ (f : Entry). nat_lt e.place f.place) es j d)
places_rise (e ∷ es) up (suc i) zero d l m = absurd (omega arith)
places_rise (e ∷ es) up (suc i) (suc j) d l m = places_rise es up.1 i j d (omega arith) (omega arith)

module _ (interval : Interval) (i x : ℕ) (es : List Entry) where
  -- behind one that is far enough all are
  pub far_behind : PlacesAscend es → IsNonDecreasingBy (λ e. e.ts) es → (j k : ℕ) (e d : Entry) → j ≤ k → k < length es
      → e ≡ slice_index_or es j e → is_far interval i x e ≡ true → is_far interval i x (slice_index_or es k d) ≡ true
  far_behind places times j k e d l m is far =
      let same : slice_index_or es j d ≡ e = get_or_default es j d e (omega arith) ∙ sym is in
      let place = places_rise es places j k d l m in
      let time = times j k d l m in
      grind (arith, nat_tests)

  -- and before one that isn't, none is
  pub near_before : PlacesAscend es → IsNonDecreasingBy (λ e. e.ts) es → (j k : ℕ) (e d : Entry) → j ≤ k → k < length es
      → e ≡ slice_index_or es k e → is_far interval i x e ≡ false → is_far interval i x (slice_index_or es j d) ≡ false
  near_before places times j k e d l m is near =
      let same : slice_index_or es k d ≡ e = get_or_default es k d e m ∙ sym is in
      let place = places_rise es places j k d l m in
      let time = times j k d l m in
      grind (arith, nat_tests)

  near_meets : (e : Entry) → is_far interval i x e ≡ false → meets interval i x e ≡ false
  near_meets e near = grind (arith, nat_tests)

  -- what begins behind the position, or is too far, has no entry behind it that meets UNTIL
  none_later : (e f : Entry) → is_far interval i x e ≡ true → meets interval i x e ≡ false → e.ts ≤ f.ts
      → max e.start i ≤ max f.start i → meets interval i x f ≡ false
  none_later e f far not times starts = grind (arith, nat_tests)

  module _ (place : ℕ) (rise : RiseFrom i es)
      (parts : IsPartitionPoint (λ e. is_far interval i x e ≡ false) (λ e. is_far interval i x e ≡ true) es place) where
    -- where none is far enough, or the first that is doesn't meet UNTIL, none does
    pub none_met : ((d : Entry) → place < length es → meets interval i x (slice_index_or es place d) ≡ false)
        → met_by interval i x es ≡ false
    none_met first = list_any_none (meets interval i x) es (λ k d l. elim (cases_lt k place) [
      | inl below ↦ near_meets (get_or es k d) (parts.0 k d (omega arith) below)
      | inr above ↦ none_later (get_or es place d) (get_or es k d) (parts.1 place d (omega arith) (omega arith))
          (first d (omega arith)) (rise.times place k d above l) (rise.starts place k d above l)
    ])

    -- the first that is far enough tells of all
    pub first_tells : (e : Entry) (b : Bool) → place < length es → e ≡ slice_index_or es place e
        → b ≡ meets interval i x e → b ≡ met_by interval i x es
    first_tells e true l is met =
        sym (list_any_at (meets interval i x) es place e l (ap (meets interval i x) (sym is) ∙ sym met))
    first_tells e false l is not =
        sym (none_met (λ d m. ap (meets interval i x) (get_or_default es place d e l ∙ sym is) ∙ sym not))
