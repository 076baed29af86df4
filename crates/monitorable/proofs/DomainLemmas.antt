-- Values in a domain, and tests over a domain.
use Rattle.std.proofs.Common.{◌≡◌, ℕ, zero, suc, ◌+◌, ◌-◌, Bool, true, false, ◌&&◌, nat_lt, nat_eq, List, [], ◌∷◌, ◌++◌}
use Rattle.std.proofs.Common.{map, length, refl, sym, ap, ◌∙◌, inl, inr, arith}
use Rattle.std.proofs.lemmas.Bool.{and_parts, or_cases, or_left, or_right, eqb-true, cases_lt}
use Rattle.std.proofs.{lemmas.List.get_or_past, lemmas.List.Folds.list_any-append}
use Rattle.std.proofs.{lemmas.List.FromFn.length-map-range_with_len, lemmas.Map.Views.tells_apart}
use Rattle.std.specs.List.{list_any, list_all, flat_map, range_with_len}
use Rattle.std.specs.{Ordering.eq_by_cmp, Cmp.both_ways}
use Rattle.mfotl_model.proofs.LogicLemmas.{any_in, any_flat_map, truth_is}
use Rattle.mfotl_model.proofs.RowLemmas.{value_exact, event_exact, value_itself}
use Rattle.mfotl_model.specs.{ActiveDomain.constants, ActiveDomain.log_values, Events.event_cmp, FreeVariables.among}
use Rattle.mfotl_model.specs.{FreeVariables.variable_in, Intervals.in_interval, Values.value_cmp, Domains.in_domain}
use Rattle.mfotl_model.specs.{Domains.Includes}
use Rattle.mfotl_model.specs.Satisfaction.{Valuation, term_value, has_event, database_at, time_at, truth_at, truths}
use Rattle.mfotl_model.specs.Satisfaction.{since, until, previous, next}
use Rattle.mfotl_model.specs.declared.{event.Event.Event, event.TimePoint.TimePoint, interval.Interval.Interval}
use Rattle.mfotl_model.specs.declared.{term.Term.Term, term.Term.TheVariants.Var, term.Term.TheVariants.Const}
use Rattle.mfotl_model.specs.declared.{value.Value.Value}
use Rattle.monitorable.specs.CoreForms.{CoreForm, meaning}

-- where a test finds something in a list, a member passes it
any_member : {X : Type 0} (p q : X → Bool) (xs : List X) → ((x : X) → p x ≡ true → q x ≡ true)
    → list_any p xs ≡ true → list_any q xs ≡ true
any_member p q [] h e = e
any_member p q (x ∷ xs) h e = grind (arith, h x, any_member p q xs h)

pub any_witness : (q : Value → Bool) (dom : List Value) → list_any q dom ≡ true
    → (a : Value) × (q a ≡ true) × (in_domain dom a ≡ true)
any_witness q [] h = cc
any_witness q (a ∷ dom) h =
    elim (or_cases (q a) (list_any q dom) h) [
      | inl here ↦ (a, here, or_left _ _ (value_itself a))
      | inr there ↦ let w = any_witness q dom there in (w.0, w.1, or_right _ _ w.2)
    ]

pub any_with : (q : Value → Bool) (a : Value) (dom : List Value) → q a ≡ true → in_domain dom a ≡ true
    → list_any q dom ≡ true
any_with q a dom h m = grind (arith, any_member, tells_apart, value_exact)

-- a test that only values of the base pass finds alike in all domains that include the base
pub any_in_domains : (q : Value → Bool) (a b base : List Value) → ((c : Value) → q c ≡ true → in_domain base c ≡ true)
    → Includes a base → Includes b base → list_any q a ≡ list_any q b
any_in_domains q a b base h left right =
    both_ways (list_any q a) (list_any q b) (moved a b right) (moved b a left)
  where
    moved : (from to : List Value) → Includes to base → list_any q from ≡ true → list_any q to ≡ true
    moved from to has e =
        let w = any_witness q from e in
        any_with q w.0 to w.1 (has w.0 (h w.0 w.1))

-- what includes the constants of both operands includes those of each
pub includes_left : (base : List Value) (f g : CoreForm)
    → Includes base (constants (meaning f) ++ constants (meaning g)) → Includes base (constants (meaning f))
includes_left base f g h a m = search (list_any-append, or_left)

pub includes_right : (base : List Value) (f g : CoreForm)
    → Includes base (constants (meaning f) ++ constants (meaning g)) → Includes base (constants (meaning g))
includes_right base f g h a m = search (list_any-append, or_right)

-- a variable's value is among the values of the terms that it occurs in
pub value_among : (v : Valuation) (y : ℕ) (terms : List Term) → among y (flat_map variable_in terms) ≡ true
    → in_domain (map (term_value v) terms) (v y) ≡ true
value_among v y [] h = h
value_among v y (Const a ∷ terms) h = or_right _ _ (value_among v y terms h)
value_among v y (Var x ∷ terms) h =
    elim (or_cases (nat_eq y x) (among y (flat_map variable_in terms)) h) [
      | inl here ↦ or_left (eq_by_cmp value_cmp (v y) (v x)) _ (rw (eqb-true y x here) (value_itself (v x)))
      | inr there ↦ or_right _ _ (value_among v y terms there)
    ]

-- a value of an event in the database at a position is a value of the log
at_position : (q : List Event → Bool) (log : List TimePoint) (i : ℕ) → q [] ≡ false → q (database_at log i) ≡ true
    → list_any (λ point. q point.db) log ≡ true
at_position q [] i none h = let e : false ≡ true = sym none ∙ h in cc
at_position q (p ∷ log) zero none h = or_left _ _ h
at_position q (p ∷ log) (suc i) none h = or_right _ _ (at_position q log i none h)

pub event_value : (log : List TimePoint) (i : ℕ) (event : Event) (a : Value)
    → has_event (database_at log i) event ≡ true → in_domain event.args a ≡ true → in_domain (log_values log) a ≡ true
event_value log i event a h m =
    any_flat_map (eq_by_cmp value_cmp a) (λ point. flat_map (λ e. e.args) point.db) log
    ∙ at_position (λ db. in_domain (flat_map (λ e. e.args) db) a) log i refl
    (any_flat_map (eq_by_cmp value_cmp a) (λ e. e.args) (database_at log i)
    ∙ any_member (eq_by_cmp event_cmp event) (λ e. in_domain e.args a) (database_at log i)
    (λ e s. ap (λ z. in_domain z.args a) (sym (tells_apart event_exact event e s)) ∙ m) h)

-- a truth value that is listed as true is true
truth_holds : (p : ℕ → Bool) (n j : ℕ) → truth_at (truths n p) j ≡ true → p j ≡ true
truth_holds p n j h = grind (arith, cases_lt, truth_is, length-map-range_with_len, get_or_past)

-- where a range has a position at which all of three tests hold, the one in the middle holds there
middle_holds : (a c p : ℕ → Bool) (n from size : ℕ)
    → list_any (λ j. a j && truth_at (truths n p) j && c j) (range_with_len from size) ≡ true → (j : ℕ) × (p j ≡ true)
middle_holds a c p n from size h = grind (arith, any_in, truth_holds, and_parts)

-- where SINCE or UNTIL holds, the right operand holds somewhere
pub since_witness : (I : Interval) (times : List ℕ) (a : List Bool) (p : ℕ → Bool) (n i : ℕ)
    → since I times a (truths n p) i ≡ true → (j : ℕ) × (p j ≡ true)
unfolding since
since_witness I times a p n i h =
    middle_holds (λ j. in_interval I (time_at times i - time_at times j))
    (λ j. list_all (truth_at a) (range_with_len (j + 1) (i - j))) p n 0 (i + 1) h

pub until_witness : (I : Interval) (times : List ℕ) (a : List Bool) (p : ℕ → Bool) (n i : ℕ)
    → until I times a (truths n p) i ≡ true → (j : ℕ) × (p j ≡ true)
unfolding until
until_witness I times a p n i h =
    middle_holds (λ j. in_interval I (time_at times j - time_at times i))
    (λ j. list_all (truth_at a) (range_with_len i (j - i))) p n i (length times - i) h

-- where PREVIOUS or NEXT holds, the operand holds beside
pub previous_witness : (I : Interval) (times : List ℕ) (p : ℕ → Bool) (n i : ℕ)
    → previous I times (truths n p) i ≡ true → p (i - 1) ≡ true
unfolding previous
previous_witness I times p n i h = truth_holds p n (i - 1) (and_parts (nat_lt 0 i && _) _ h).1

pub next_witness : (I : Interval) (times : List ℕ) (p : ℕ → Bool) (n i : ℕ)
    → next I times (truths n p) i ≡ true → p (i + 1) ≡ true
unfolding next
next_witness I times p n i h = truth_holds p n (i + 1) (and_parts (nat_lt (i + 1) (length times) && _) _ h).1
