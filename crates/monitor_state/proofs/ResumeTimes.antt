-- The timestamps with which a state is resumed are the log's.
use Rattle.std.proofs.Common.{◌≡◌, ℕ, zero, suc, ◌+◌, ◌-◌, ◌<◌, ◌≤◌, List, [], ◌∷◌, length, drop, ap, ap₂, ◌∙◌, arith}
use Rattle.std.proofs.Common.{slice_index}
use Rattle.std.proofs.lemmas.List.{drop_more, get_or-drop, length-drop, length-map}
use Rattle.mfotl_model.specs.{Exact.View, Log.times, Satisfaction.time_at}
use Rattle.relations.specs.Pushed.{StandFrom}
use Rattle.monitor_state.proofs.MarkLemmas.{dropped_behind, found_behind}
use Rattle.monitor_nodes.specs.{Stamps.stamps, Views.Dates}
use Rattle.monitor_state.specs.StateTimes.{KeptTimes, time_before, times_from}
use Rattle.std.proofs.lemmas.Grind.{common_steps}

stand_each : (t : List ℕ) (p : ℕ) (rest : List ℕ) → ((n : ℕ) → n < length rest → slice_index rest n ≡ time_at t (p + n))
    → StandFrom (λ i x. x ≡ time_at t i) p rest
stand_each t p [] each = tt
stand_each t p (x ∷ rest) each =
    let none : p + 0 ≡ p = omega arith in (
      each 0 (omega arith) ∙ ap (time_at t) none,
      stand_each t (p + 1) rest (λ n below.
          let more : p + suc n ≡ p + 1 + n = omega arith in
          each (suc n) (omega arith) ∙ ap (time_at t) more),
    )

pub log_size : (view : View) → length (times view.log) ≡ length view.log
log_size view = length-map view.log (λ p. p.ts)

module _ (view : View) (k : KeptTimes) (p : ℕ) (are : k.stamps ≡ drop k.first (times view.log)) where
  pub rest_is : k.first ≤ p → times_from k p ≡ drop p (times view.log)
  rest_is low = dropped_behind k.first p (times view.log) k.stamps are low

  pub rest_size : k.first ≤ p → length (times_from k p) ≡ length view.log - p
  rest_size low = cc (length-drop p (times view.log), log_size view, rest_is low)

  pub rest_dates : k.first ≤ p → (t : List ℕ) → Dates view t → StandFrom (λ i x. x ≡ time_at t i) p (times_from k p)
  rest_dates low t dates = grind (arith, stand_each, rest_size, slice_index, rest_is, get_or-drop)

  pub last_dates : k.first ≤ p - 1 → p ≤ length view.log → (t : List ℕ) → Dates view t → 0 < p
      → time_before k p ≡ time_at t (p - 1)
  last_dates low inside t dates some = grind (arith, common_steps, zero, found_behind)

  -- with the one before they are what the state knows
  pub known_from : (last : ℕ) (rest : List ℕ) → k.first ≤ p - 1 → p ≤ length view.log → last ≡ time_before k p
      → rest ≡ times_from k p → stamps p last rest ≡ drop (p - 1) (times view.log)
  known_from last rest low inside last_is rest_are =
      grind (arith, common_steps, zero, rest_is, log_size, ap₂, found_behind, drop_more)
