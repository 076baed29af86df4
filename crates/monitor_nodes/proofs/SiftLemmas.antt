-- Rows that stay, and tables pulled, one after the other.
use Rattle.std.proofs.Common.{subst, ◌≡◌, ℕ, ◌<◌, Bool, true, false, ◌&&◌, ◌||◌, List, [], ◌∷◌, ◌++◌, length, refl, sym}
use Rattle.std.proofs.Common.{ap, ◌∙◌, arith, append_assoc, append-nil, Ordering, Less, cond}
use Rattle.std.proofs.{lemmas.Bool.and_from, lemmas.Bool.and_parts, lemmas.Bool.Decides.nat_tests}
use Rattle.std.proofs.{lemmas.List.Folds.list_any-append, lemmas.Map.Views.tells_apart, lemmas.Grind.common_steps}
use Rattle.std.specs.{List.Sorted.IsStrictlySortedBy, Ordering.eq_by_cmp, List.AllByRecursion, List.list_all}
use Rattle.mfotl_model.proofs.RowLemmas.{row_exact}
use Rattle.mfotl_model.specs.Tables.{TableOf, has_row, valuation}
use Rattle.mfotl_model.specs.Values.{row_cmp}
use Rattle.mfotl_model.specs.declared.value.Value.{Value}
use Rattle.relations.specs.{Pushed.turned, Tables.IsTable}
use Rattle.monitor_nodes.specs.FilterFeeding.{FilterPulled, FilterStep, Sifts}
use Rattle.monitor_nodes.specs.WindowNode.{WindowHolds}
use Rattle.monitor_nodes.specs.declared.{filter.FilterState.FilterState, window.Window.Window}

pub pulled_more : (old mid new : FilterState) (tables : List TableOf) (kept : TableOf) → FilterPulled old mid tables
    → FilterStep mid new kept → FilterPulled old new (tables ++ kept ∷ [])
pulled_more old mid new [] kept same step = (new, subst (λ s. FilterStep s new kept) same step, refl)
pulled_more old mid new (table ∷ tables) kept pulled step =
    (pulled.0, pulled.1, pulled_more pulled.0 mid new tables kept pulled.2 step)

-- the next table shortens what is kept
pub pulled_fewer : (old new : FilterState) (kept : TableOf) → FilterStep old new kept
    → length new.tables < length old.tables
pulled_fewer old new kept step = grind arith

module _ {K : Type 0} (c : K → K → Ordering) where
  all_without : (P : K → Type 0) (xs ys : List K) (y : K) → AllByRecursion P (xs ++ y ∷ ys)
      → AllByRecursion P (xs ++ ys)
  all_without P [] ys y all = all.1
  all_without P (x ∷ xs) ys y all = (all.0, all_without P xs ys y all.1)

  sorted_without : (xs ys : List K) (y : K) → IsStrictlySortedBy c (xs ++ y ∷ ys) → IsStrictlySortedBy c (xs ++ ys)
  unfolding IsStrictlySortedBy
  sorted_without [] ys y sorted = sorted.1
  sorted_without (x ∷ xs) ys y sorted = (
    all_without (λ z. c x z ≡ Less) xs ys y sorted.0,
    sorted_without xs ys y
        sorted.1,
  )

holds_without : {X : Type 0} (p : X → Bool) (xs ys : List X) (y : X) → list_all p (xs ++ y ∷ ys) ≡ true
    → list_all p (xs ++ ys) ≡ true
holds_without p xs ys y h = grind (arith, common_steps, and_parts, and_from)

-- a table without one of its rows is one
table_without : (columns : List ℕ) (xs ys : List (List Value)) (y : List Value) → IsTable columns (xs ++ y ∷ ys)
    → IsTable columns (xs ++ ys)
table_without columns xs ys y is = search (holds_without, sorted_without)

-- a row stays or doesn't
pub table_kept : (columns : List ℕ) (stays : Bool) (kept new rest : List (List Value)) (row : List Value)
    → IsTable columns (kept ++ row ∷ rest) → new ≡ kept ++ cond stays (row ∷ []) [] → IsTable columns (new ++ rest)
table_kept columns stays kept new rest row is same = grind (arith, append_assoc, append-nil, table_without)

added : (d k e t s : Bool) → k ≡ (d && t) → (e ≡ true → s ≡ t)
    → (k || cond s (e || false) false) ≡ ((d || (e || false)) && t)
added d k e t s before same = grind (arith, nat_tests)

pub sift_more : (w : Window) (negated answer stays : Bool) (columns : List ℕ) (done kept new : List (List Value))
    (row : List Value)
    → Sifts w negated columns done kept → WindowHolds w (valuation columns row) answer → stays ≡ turned negated answer
    → new ≡ kept ++ cond stays (row ∷ []) [] → Sifts w negated columns (done ++ row ∷ []) new
sift_more w negated answer stays columns done kept new row before told is same u holds answers =
    ap (λ rows. has_row rows u) same
    ∙ list_any-append (eq_by_cmp row_cmp u) kept (cond stays (row ∷ []) [])
    ∙ ap (λ b. has_row kept u || b) (grind arith)
    ∙ added (has_row done u) (has_row kept u) (eq_by_cmp row_cmp u row) (turned negated holds) stays
    (before u holds answers)
    (λ e.
    is
    ∙ ap (turned negated)
    (answers answer
    (subst (λ r. WindowHolds w (valuation columns r) answer) (sym (tells_apart row_exact u row e)) told)))
    ∙ ap (λ b. b && turned negated holds) (sym (list_any-append (eq_by_cmp row_cmp u) done (row ∷ [])))
