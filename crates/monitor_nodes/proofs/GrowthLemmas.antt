-- Tables that a state keeps of an operand, in a log that grows, and what a log tells of a core.
use Rattle.std.proofs.Common.{◌≡◌, ℕ, ◌+◌, ◌<◌, Bool, true, List, [], ◌∷◌, ◌++◌, length, arith, subst}
use Rattle.mfotl_model.specs.Exact.{View, Covers, AllExact}
use Rattle.mfotl_model.specs.{FreeVariables.fv, Formulas.Form, Log.times, Tables.TableOf, Times.NeverFalls}
use Rattle.mfotl_model.specs.Satisfaction.{Valuation, sat, truths}
use Rattle.mfotl_model.specs.declared.{event.TimePoint.TimePoint, value.Value.Value}
use Rattle.eval_bool.specs.Firsts.{first_has}
use Rattle.monitorable.specs.CoreForms.{CoreForm, meaning}
use Rattle.relations.specs.Pushed.{StandFrom}
use Rattle.monitor_nodes.proofs.ExactLemmas.{all_stay, exact_append}
use Rattle.monitor_nodes.specs.{Steps.News, Steps.longer, Views.reached}

-- at which positions of a log a core holds
abbrev pub told : View → List Value → Valuation → CoreForm → List Bool
told view dom v f = truths (length view.log) (λ j. sat view.log dom v j (meaning f))

-- an operand's new tables stand exact behind those that are kept
pub exact_more : {view : View} {point : TimePoint} {f : CoreForm} {more : List TableOf} → News view point f more
    → NeverFalls (times (longer view point).log) → (p : ℕ) (tables : List TableOf)
    → p + length tables ≡ reached view f → AllExact view (meaning f) p tables
    → AllExact (longer view point) (meaning f) p (tables ++ more)
exact_more {view} {point} {f} {more} news rising p tables pushed exact = grind (arith, exact_append, all_stay)

-- the first of exact tables
pub first_exact : (view : View) (f : Form) (i : ℕ) (tables : List TableOf) (dom : List Value) (v : Valuation)
    → Covers view dom → view.near (fv f) v ≡ true → 0 < length tables → AllExact view f i tables
    → first_has v tables ≡ sat view.log dom v i f
first_exact view f i tables dom v covers near some all = grind arith

-- what stands in front, and what behind
pub stand_split : {X : Type 0} (P : ℕ → X → Type 0) (p : ℕ) (xs ys : List X) → StandFrom P p (xs ++ ys)
    → StandFrom P p xs × StandFrom P (p + length xs) ys
stand_split P p [] ys all = (tt, (let e : p ≡ p + 0 = omega arith in subst (λ i. StandFrom P i ys) e all))
stand_split P p (x ∷ xs) ys all = grind (arith, stand_split P (p + 1) xs ys all.1)
