-- What a state is after all its nodes took a time-point.
use Rattle.std.proofs.Common.{◌≡◌, ℕ, ◌+◌, ◌-◌, ◌^◌, ◌<◌, ◌≤◌, min, List, [], ◌∷◌, ◌++◌, length, drop, ap₂, arith}
use Rattle.std.proofs.lemmas.List.{drop-append-le, drop-drop, length-map}
use Rattle.mfotl_model.specs.{Log.times, Tables.TableOf}
use Rattle.mfotl_model.specs.declared.event.TimePoint.{TimePoint}
use Rattle.monitorable.specs.CoreForms.{CoreForm}
use Rattle.monitor_nodes.proofs.ExactLemmas.{log_more, reached_within, times_more}
use Rattle.monitor_nodes.specs.{Steps.longer, Views.reached}
use Rattle.monitor_state.specs.{Going.AllAdvance, Stands.StateOf, Steps.Steps}

pub steps : (core : CoreForm) (old new : StateOf) (given : TimePoint) (tables : List TableOf)
    → AllAdvance old.nodes given new.nodes tables → old.taken < 2 ^ 63 → new.taken ≡ old.taken + 1
    → (old.given + length tables < 2 ^ 64 → new.given ≡ old.given + length tables)
    → new.first ≡ old.given → new.times ≡ drop (old.given - old.first) old.times ++ given.ts ∷ []
    → Steps core old given new tables
steps core old new given tables advance few taken given_is first kept view point premises stands =
    let both = advance view point core premises stands.nodes in
    let more : length (longer view point).log ≡ length view.log + 1 = log_more view point premises.rising in
    let inside : reached (longer view point) core ≤ length (longer view point).log = search (reached_within) in
    let inside_before : reached view core ≤ length view.log = reached_within view core in
    let small : old.given + length tables < 2 ^ 64 = omega arith in
    let now : new.given ≡ old.given + length tables = given_is small in
    let size : length (times view.log) ≡ length view.log = length-map view.log (λ p. p.ts) in
    grind (arith, ap₂, drop-drop, drop-append-le, times_more)

-- a sum that fits is not cut off
pub saturated : (a n r : ℕ) (tables : List TableOf) → n ≡ length tables → r ≡ min (a + n) (2 ^ 64 - 1)
    → a + length tables < 2 ^ 64 → r ≡ a + length tables
saturated a n r tables is cut small = omega arith
