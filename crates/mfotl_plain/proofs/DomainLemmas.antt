-- Values put one after another, and their ascending order.
use Rattle.std.proofs.Common.{◌≡◌, ℕ, ◌+◌, ◌<◌, Bool, length, take, get_or, List, [], ◌++◌, ◌||◌, refl, ap, sym, ◌∙◌}
use Rattle.std.proofs.{lemmas.List.Filters.dedup_is, lemmas.List.Folds.list_any-append}
use Rattle.std.specs.{List.flat_map, List.list_any, List.Retain.DiffersFromLast, List.Retain.IsFiltered}
use Rattle.std.specs.{List.Sorted.IsPermutation, List.Sorted.IsSorted, Ordering.eq_by_cmp}
use Rattle.mfotl_model.specs.{ActiveDomain.log_values, Ascending.ascending, Events.event_cmp, Events.event_total}
use Rattle.mfotl_model.specs.{Values.value_cmp, Values.value_total}
use Rattle.mfotl_model.specs.declared.{event.Event.Event, event.TimePoint.TimePoint, value.Value.Value}
use Rattle.mfotl_model.proofs.{AscendingLemmas.any_ascending, AscendingLemmas.same_ascending, LogicLemmas.any_flat_map}
use Rattle.mfotl_model.proofs.{RowLemmas.event_exact, RowLemmas.value_exact, SortedLemmas.sorted_ascends}
use Rattle.mfotl_plain.proofs.PlainRowLemmas.{flat_map_more}

-- values that were sorted and have no equal neighbours, from what the calls say
pub values_ascend : (xs ys zs : List Value) → IsPermutation xs ys → IsSorted value_cmp ys
    → IsFiltered (DiffersFromLast (eq_by_cmp value_cmp)) [] ys zs → zs ≡ ascending value_cmp xs
values_ascend xs ys zs moved sorted left =
    dedup_is (eq_by_cmp value_cmp) ys zs left ∙ sorted_ascends value_total value_exact xs ys moved sorted

-- lists that come out the same in order find alike
found_alike : (xs ys : List Value) → ascending value_cmp xs ≡ ascending value_cmp ys
    → (p : Value → Bool) → list_any p xs ≡ list_any p ys
found_alike xs ys same p =
    sym (any_ascending value_total value_exact p xs)
    ∙ ap (list_any p) same
    ∙ any_ascending value_total value_exact p ys

-- parts that come out the same in order do so together
parts_alike : (xs ys vs ws : List Value) → ascending value_cmp xs ≡ ascending value_cmp ys
    → ((p : Value → Bool) → list_any p vs ≡ list_any p ws)
    → ascending value_cmp (xs ++ vs) ≡ ascending value_cmp (ys ++ ws)
parts_alike xs ys vs ws same alike =
    same_ascending value_total value_exact (xs ++ vs) (ys ++ ws)
    (λ q. list_any-append (eq_by_cmp value_cmp q) xs vs
    ∙ ap (λ b. b || list_any (eq_by_cmp value_cmp q) vs) (found_alike xs ys same (eq_by_cmp value_cmp q))
    ∙ ap (λ b. list_any (eq_by_cmp value_cmp q) ys || b) (alike (eq_by_cmp value_cmp q))
    ∙ sym (list_any-append (eq_by_cmp value_cmp q) ys ws))

-- the same values behind both
pub in_order_behind : (xs ys vs : List Value) → ascending value_cmp xs ≡ ascending value_cmp ys
    → ascending value_cmp (xs ++ vs) ≡ ascending value_cmp (ys ++ vs)
in_order_behind xs ys vs same = parts_alike xs ys vs vs same (λ p. refl)

-- the arguments of a database's events, in whatever order these were inserted
arguments_alike : (inserted db : List Event) → ascending event_cmp inserted ≡ db → (p : Value → Bool)
    → list_any p (flat_map (λ (event : Event). event.args) inserted)
    ≡ list_any p (flat_map (λ (event : Event). event.args) db)
arguments_alike inserted db is p =
    let arguments : Event → List Value = λ event. event.args in
    any_flat_map p arguments inserted
    ∙ sym (any_ascending event_total event_exact (λ event. list_any p event.args) inserted)
    ∙ ap (list_any (λ event. list_any p event.args)) is
    ∙ sym (any_flat_map p arguments db)

-- the values of one more time-point
pub points_more : (log : List TimePoint) (i : ℕ) (point : TimePoint) (inserted : List Event)
    (values after : List Value)
    → i < length log → point ≡ get_or log i point
    → ascending value_cmp values ≡ ascending value_cmp (log_values (take i log))
    → after ≡ values ++ flat_map (λ event. event.args) inserted
    → ascending event_cmp inserted ≡ point.db
    → ascending value_cmp after ≡ ascending value_cmp (log_values (take (i + 1) log))
points_more log i point inserted values after within is was adds same =
    let arguments : TimePoint → List Value = λ p. flat_map (λ event. event.args) p.db in
    ap (ascending value_cmp) adds
    ∙ parts_alike values (log_values (take i log)) (flat_map (λ event. event.args) inserted) (arguments point) was
    (arguments_alike inserted point.db same)
    ∙ ap (ascending value_cmp)
    (flat_map_more arguments log i point (log_values (take i log))
    (log_values (take i log) ++ arguments point) within is refl refl)
