-- The active domain, and the rows over it.
use Rattle.std.proofs.Common.{◌≡◌, ℕ, Bool, true, ◌&&◌, ◌||◌, nat_eq, List, [], ◌∷◌, ◌++◌, length, map, refl, ◌∙◌}
use Rattle.std.proofs.Common.{arith}
use Rattle.std.proofs.lemmas.Bool.{and_from, or_left, or_right, eqb-true}
use Rattle.std.proofs.{lemmas.Grind.flat_map-append, lemmas.List.Folds.list_any-append}
use Rattle.std.proofs.{lemmas.Map.Views.any-filter_same, lemmas.Map.Views.tells_apart}
use Rattle.std.specs.List.{list_any, list_all, filter}
use Rattle.std.specs.Ordering.{eq_by_cmp}
use Rattle.mfotl_model.proofs.{AscendingLemmas.any_ascending, LogicLemmas.same_number, ColumnLemmas.row_kept}
use Rattle.mfotl_model.proofs.RowLemmas.{value_exact, row_exact, member_all_rows}
use Rattle.mfotl_model.specs.ActiveDomain.{adom, constants, log_values}
use Rattle.mfotl_model.specs.{FreeVariables.among, Formulas.Form, Satisfaction.Valuation, Tables.all_apart}
use Rattle.mfotl_model.specs.{Tables.valuation, Violations.all_rows, Domains.in_domain, Domains.Includes}
use Rattle.mfotl_model.specs.Values.{value_cmp, value_total, row_cmp}
use Rattle.mfotl_model.specs.declared.{event.TimePoint.TimePoint, value.Value.Value}

-- the active domain has the values of the log and of the policy
adom_has : (log : List TimePoint) (f : Form) (a : Value)
    → in_domain (adom log f) a ≡ (in_domain (log_values log) a || in_domain (constants f) a)
adom_has log f a =
    any_ascending value_total value_exact (eq_by_cmp value_cmp a) (log_values log ++ constants f)
    ∙ list_any-append (eq_by_cmp value_cmp a) (log_values log) (constants f)

pub has_log : (log : List TimePoint) (f : Form) → Includes (adom log f) (log_values log)
has_log log f a h = adom_has log f a ∙ or_left _ _ h

pub has_constants : (log : List TimePoint) (f : Form) → Includes (adom log f) (constants f)
has_constants log f a h = adom_has log f a ∙ or_right _ _ h

kept : (b c d : Bool) → (b || d) ≡ true → ((b || c) || d) ≡ true
kept b c d h = grind arith

-- a longer log has no smaller active domain
pub grows : (log more : List TimePoint) (f : Form) → Includes (adom (log ++ more) f) (adom log f)
grows log more f a h = grind (arith, adom_has, flat_map-append, list_any-append, kept)

-- what holds of the value of each column holds of each value
all_read : (p : Value → Bool) (v : Valuation) (columns : List ℕ)
    → ((y : ℕ) → among y columns ≡ true → p (v y) ≡ true) → list_all p (map v columns) ≡ true
all_read p v [] h = refl
all_read p v (x ∷ columns) h =
    and_from _ _ (h x (or_left _ _ (same_number x))) (all_read p v columns (λ y m. h y (or_right _ _ m)))

-- a row has its values in the domain where each column's value lies there
pub row_within : (columns : List ℕ) (row : List Value) (dom : List Value) → all_apart columns ≡ true
    → nat_eq (length row) (length columns) ≡ true
    → ((y : ℕ) → among y columns ≡ true → in_domain dom (valuation columns row y) ≡ true)
    → list_all (in_domain dom) row ≡ true
row_within columns row dom apart size h = grind (arith, row_kept, eqb-true, all_read)

-- a row is found exactly if it passes the test and has n values, all in the domain
pub found : (p : List Value → Bool) (n : ℕ) (dom : List Value) (row : List Value)
    → list_any (eq_by_cmp row_cmp row) (filter p (all_rows n dom))
    ≡ (p row && (nat_eq (length row) n && list_all (in_domain dom) row))
found p n dom row = grind (arith, any-filter_same, tells_apart, row_exact, member_all_rows n dom row)
