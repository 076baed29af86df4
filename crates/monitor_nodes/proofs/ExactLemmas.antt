-- Exact tables in a log that grows.
use Rattle.std.proofs.Common.{subst, ◌≡◌, ℕ, zero, suc, ◌+◌, ◌<◌, ◌≤◌, Bool, true, List, [], ◌∷◌, ◌++◌, length, drop}
use Rattle.std.proofs.Common.{sym, ◌∙◌, arith, length-append}
use Rattle.std.proofs.lemmas.List.{get_or_append_left, length-map, map-append}
use Rattle.std.proofs.Math.Seq.{get_or-append_seam}
use Rattle.mfotl_model.proofs.{CountLemmas.counted_settled, LogicLemmas.truth_is, TimeLemmas.front_never_falls}
use Rattle.mfotl_model.specs.Exact.{View, Covers, Exact, AllExact}
use Rattle.mfotl_model.specs.{FreeVariables.fv, Formulas.Form, Log.times, Settled.settled, Tables.TableOf, Tables.has}
use Rattle.mfotl_model.specs.{Times.NeverFalls}
use Rattle.mfotl_model.specs.Satisfaction.{Valuation, sat, time_at, truth_at, truths}
use Rattle.mfotl_model.specs.declared.{event.TimePoint.TimePoint, value.Value.Value}
use Rattle.monitorable.proofs.{DomainRows.grows, FinalityLaw.finality}
use Rattle.monitorable.specs.CoreForms.{CoreForm, meaning}
use Rattle.relations.specs.Pushed.{AreOver, StandFrom}
use Rattle.monitor_nodes.proofs.CountLemmas.{count_grows, count_within}
use Rattle.monitor_nodes.specs.Steps.{longer}
use Rattle.monitor_nodes.specs.Views.{Dates, Tells, reached}

-- the rest of exact tables
pub exact_drop : (view : View) (f : Form) (i n : ℕ) (tables : List TableOf) → AllExact view f i tables
    → AllExact view f (i + n) (drop n tables)
exact_drop view f i zero tables all = let at : i ≡ i + 0 = omega arith in subst (λ j. AllExact view f j tables) at all
exact_drop view f i (suc n) [] all = tt
exact_drop view f i (suc n) (table ∷ tables) all = grind (arith, exact_drop view f (i + 1) n tables all.1)

-- exact tables behind exact tables
pub exact_append : (view : View) (f : Form) (i j : ℕ) (xs ys : List TableOf) → i + length xs ≡ j → AllExact view f i xs
    → AllExact view f j ys → AllExact view f i (xs ++ ys)
exact_append view f i j [] ys at first second = grind arith
exact_append view f i j (x ∷ xs) ys at first second =
    (first.0, exact_append view f (i + 1) j xs ys (omega arith) first.1 second)

-- tables that hold what the formula does, of each near valuation, are exact
pub stand_exact : (view : View) (f : Form) (columns : List ℕ) (i : ℕ) (tables : List TableOf) → columns ≡ fv f
    → AreOver columns tables → ((dom : List Value) (v : Valuation) → Covers view dom → view.near (fv f) v ≡ true
    → StandFrom (λ k table. has table v ≡ sat view.log dom v k f) i tables) → AllExact view f i tables
stand_exact view f columns i [] is over stand = tt
stand_exact view f columns i (table ∷ tables) is over stand = (
  record { columns = over.0 ∙ is; rows = λ dom v covers near. (stand dom v covers near).0 },
  stand_exact view f columns (i + 1) tables is over.1 (λ dom v covers near. (stand dom v covers near).1),
)

-- exact tables hold what a list tells
pub exact_tell : (view : View) (f : CoreForm) (dom : List Value) (v : Valuation) (a : List Bool) (i : ℕ)
    (tables : List TableOf)
    → Covers view dom → view.near (fv (meaning f)) v ≡ true → Tells view dom v f a → i + length tables ≤ reached view f
    → AllExact view (meaning f) i tables → StandFrom (λ k table. has table v ≡ truth_at a k) i tables
exact_tell view f dom v a i [] covers near tells most all = tt
exact_tell view f dom v a i (table ∷ tables) covers near tells most all = (
  all.0.rows dom v covers near ∙ sym (tells i (omega arith)),
  exact_tell view f dom v a (i + 1) tables covers near tells (omega arith) all.1,
)

-- what stands for places stands for those as far behind another place, where it means as much for them
pub shifted : {X : Type 0} (P Q : ℕ → X → Type 0) (p i : ℕ) (xs : List X)
    → ((k : ℕ) (x : X) → i ≤ k → k < i + length xs → P k x → Q (p + k) x) → StandFrom P i xs → StandFrom Q (p + i) xs
shifted P Q p i [] means stand = tt
shifted P Q p i (x ∷ xs) means stand =
    let at : p + (i + 1) ≡ p + i + 1 = omega arith in (
      means i x (omega arith) (omega arith) stand.0,
      subst (λ j. StandFrom Q j xs) at
          (shifted P Q p (i + 1) xs (λ k y low high. means k y (omega arith) (omega arith)) stand.1),
    )

-- the truths of a log tell of it
pub truths_tell : (view : View) (dom : List Value) (v : Valuation) (f : CoreForm)
    → Tells view dom v f (truths (length view.log) (λ j. sat view.log dom v j (meaning f)))
truths_tell view dom v f j low = grind (arith, count_within, length-map, truth_is)

pub reached_within : (view : View) (f : CoreForm) → reached view f ≤ length view.log
reached_within view f = grind (arith, count_within, length-map)

module _ (view : View) (point : TimePoint) (rising : NeverFalls (times (longer view point).log)) where
  -- the timestamps with one more
  pub times_more : times (longer view point).log ≡ times view.log ++ point.ts ∷ []
  times_more = map-append (λ (p : TimePoint). p.ts) view.log (point ∷ [])

  pub rising_more : NeverFalls (times view.log ++ point.ts ∷ [])
  rising_more = subst NeverFalls times_more rising

  pub rising_before : NeverFalls (times view.log)
  rising_before = front_never_falls (times view.log) (point.ts ∷ []) rising_more

  pub log_more : length (longer view point).log ≡ length view.log + 1
  log_more = cc (length-append view.log (point ∷ []))

  pub reached_grows : (f : CoreForm) → reached view f ≤ reached (longer view point) f
  reached_grows f = search (count_grows, rising_more, times_more)

  pub covers_before : (dom : List Value) → Covers (longer view point) dom → Covers view dom
  covers_before dom c a h = c a (grows view.log (point ∷ []) view.whole a h)

  -- the new time-point's timestamp
  pub dates_new : (t : List ℕ) → Dates (longer view point) t → point.ts ≡ time_at t (length view.log)
  dates_new t dates = grind (arith, log_more, length-map, times_more, get_or-append_seam)

  -- lists that agree with the longer log agree with the shorter one
  pub dates_before : (t : List ℕ) → Dates (longer view point) t → Dates view t
  dates_before t dates j low = grind (arith, log_more, length-map, times_more, get_or_append_left)

  pub tells_before : (dom : List Value) (v : Valuation) (f : CoreForm) (a : List Bool)
      → Tells (longer view point) dom v f a → Tells view dom v f a
  tells_before dom v f a tells j low = grind (arith, reached_grows, finality, counted_settled)

  -- an exact table of a settled position stays exact
  exact_stays : (f : Form) (i : ℕ) (table : TableOf) → settled (times view.log) f i ≡ true → Exact view f i table
      → Exact (longer view point) f i table
  exact_stays f i table s e =
      record {
        columns = e.columns;
        rows = grind (arith, covers_before, finality);
      }

  pub all_stay : (f : CoreForm) (i : ℕ) (tables : List TableOf) → i + length tables ≤ reached view f
      → AllExact view (meaning f) i tables → AllExact (longer view point) (meaning f) i tables
  all_stay f i [] low all = tt
  all_stay f i (table ∷ tables) low all = (
    exact_stays (meaning f) i table (counted_settled (times view.log) (meaning f) i (omega arith)) all.0,
    all_stay f (i + 1) tables (omega arith) all.1,
  )
