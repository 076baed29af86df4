-- The queue of the positions that were taken: one more, and what is pulled is forgotten by it.
use Rattle.std.proofs.Common.{◌≡◌, ℕ, ◌+◌, ◌<◌, ◌≤◌, Bool, true, false, cond, nat_eq, nat_le, nat_lt, ◌&&◌, ◌||◌, List}
use Rattle.std.proofs.Common.{[], ◌∷◌, ◌++◌, Option, get_or, refl, arith}
use Rattle.std.proofs.{lemmas.Bool.Decides.nat_tests, lemmas.List.Folds.list_any-append}
use Rattle.std.proofs.{lemmas.List.Folds.list_all-append, lemmas.Grind.common_steps}
use Rattle.std.specs.{List.list_all, Option.IfSome}
use Rattle.mfotl_model.specs.Tables.{has_row}
use Rattle.mfotl_model.specs.declared.value.Value.{Value}
use Rattle.relations.proofs.{QueueLemmas.rises_push, TestLemmas.all_push, TestLemmas.all_weaker}
use Rattle.eval_until.specs.declared.contents.Taken.{Taken}
use Rattle.until_rows.specs.declared.entries.Entry.{Entry}
use Rattle.until_rows.specs.{Entries.from_place, Starts.later_start}
use Rattle.eval_until.specs.Keeping.{Fresh, IsLater, NotAfter, Rising, breaks_before, names}

-- the entries that are left stand in the rest of the queue
names_left : (next : ℕ) (q : Taken) (qs : List Taken) (u : List Value) (es : List Entry) → q.place < next
    → list_all (λ e. names (q ∷ qs) u e.place) es ≡ true
    → list_all (λ e. names qs u e.place) (from_place next es) ≡ true
unfolding from_place
names_left next q qs u [] low all = refl
names_left next q qs u (e ∷ es) low all = grind (arith, nat_tests, names_left next q qs u es low)

-- a row that the first table lacks stands in the rest
names_other : (q : Taken) (qs : List Taken) (u : List Value) (es : List Entry) → has_row q.rights.items u ≡ false
    → list_all (λ e. names (q ∷ qs) u e.place) es ≡ true → list_all (λ e. names qs u e.place) es ≡ true
names_other q qs u es lacks = all_weaker _ _ es (λ e named. grind arith)

pub covered_more : (next : ℕ) (q : Taken) (qs : List Taken) (u : List Value) (cur new : List Entry)
    → q.place < next → list_all (λ e. names (q ∷ qs) u e.place) cur ≡ true
    → new ≡ cond (has_row q.rights.items u) (from_place next cur) cur → list_all (λ e. names qs u e.place) new ≡ true
covered_more next q qs u cur new low all step = grind (arith, names_left, names_other)

-- so do the starts that are left
pub breaks_more : (negated : Bool) (next : ℕ) (q : Taken) (qs : List Taken) (w : List Value) (cur new : Option ℕ)
    → negated ≡ true → q.place < next → IfSome cur (λ s. breaks_before (q ∷ qs) w s ≡ true)
    → new ≡ cond (negated && has_row q.breaks.items w) (later_start next cur) cur
    → IfSome new (λ s. breaks_before qs w s ≡ true)
breaks_more negated next q qs w cur new is low covered step = grind (arith, nat_tests)

-- one table more whose starts are forgotten
pub later_more : (negated : Bool) (next : ℕ) (old cur new : Option ℕ) (b : Bool) → IsLater negated next old cur
    → new ≡ cond (negated && b) (later_start next cur) cur → IsLater negated next old new
later_more negated next old cur new b later e = grind (arith, nat_tests)

-- where the first position isn't below next, none is
pub fresh_front : (next : ℕ) (queue : List Taken) (q : Taken) → q ≡ get_or queue 0 q → Rising queue
    → next ≤ q.place → Fresh next queue
fresh_front next queue q e rising low = grind (arith, common_steps, all_weaker)

pub front_before : (next : ℕ) (queue rest : List Taken) (q r : Taken) → queue ≡ r ∷ rest → q ≡ get_or queue 0 q
    → q.place < next → r.place < next
front_before next queue rest q r is e low = grind arith

-- one position more
pub after_push : (p : ℕ) (qs : List Taken) (q : Taken) → NotAfter p qs → q.place ≡ p → NotAfter (p + 1) (qs ++ q ∷ [])
after_push p qs q all e = grind (arith, all_push, all_weaker)

pub fresh_push : (next : ℕ) (qs : List Taken) (q : Taken) → Fresh next qs → next ≤ q.place → Fresh next (qs ++ q ∷ [])
fresh_push next qs q fresh l = all_push (λ r. nat_le next r.place) qs q fresh (grind (arith, nat_tests))

pub rising_push : (p : ℕ) (qs : List Taken) (q : Taken) → Rising qs → NotAfter p qs → q.place ≡ p
    → Rising (qs ++ q ∷ [])
rising_push p qs q rising all e = grind (arith, rises_push, all_weaker)

-- what a position more at the end names
names_more : (qs : List Taken) (q : Taken) (u : List Value) (j : ℕ)
    → names (qs ++ q ∷ []) u j ≡ (names qs u j || (nat_eq q.place j && has_row q.rights.items u))
names_more qs q u j = grind (arith, list_any-append (λ r. nat_eq r.place j && has_row r.rights.items u) qs (q ∷ []))

breaks_at : (qs : List Taken) (q : Taken) (w : List Value) (s : ℕ)
    → breaks_before (qs ++ q ∷ []) w s ≡ (breaks_before qs w s || (nat_eq (q.place + 1) s && has_row q.breaks.items w))
breaks_at qs q w s = grind (arith, list_any-append)

-- of what is there, what is weaker
pub some_weaker : (P Q : ℕ → Type 0) (o : Option ℕ) → ((s : ℕ) → P s → Q s) → IfSome o P → IfSome o Q
some_weaker P Q o gives is = grind arith

pub names_push : (qs : List Taken) (q : Taken) (u : List Value) (es : List Entry)
    → list_all (λ e. names qs u e.place) es ≡ true → list_all (λ e. names (qs ++ q ∷ []) u e.place) es ≡ true
names_push qs q u es = all_weaker _ _ es (λ e named. grind (arith, names_more qs q u e.place))

pub names_last : (qs : List Taken) (q : Taken) (u : List Value) → has_row q.rights.items u ≡ true
    → names (qs ++ q ∷ []) u q.place ≡ true
names_last qs q u h = grind (arith, nat_tests, names_more qs q u q.place)

pub breaks_push : (qs : List Taken) (q : Taken) (w : List Value) (o : Option ℕ)
    → IfSome o (λ s. breaks_before qs w s ≡ true) → IfSome o (λ s. breaks_before (qs ++ q ∷ []) w s ≡ true)
breaks_push qs q w o = grind (arith, some_weaker, breaks_at)

pub breaks_last : (qs : List Taken) (q : Taken) (w : List Value) → has_row q.breaks.items w ≡ true
    → breaks_before (qs ++ q ∷ []) w (q.place + 1) ≡ true
breaks_last qs q w h = grind (arith, nat_tests, breaks_at qs q w (q.place + 1))

-- where the queue is fresh, each entry stands from next on
named_fresh : (next : ℕ) (u : List Value) (j : ℕ) (qs : List Taken) → Fresh next qs → names qs u j ≡ true → next ≤ j
named_fresh next u j [] fresh named = cc
named_fresh next u j (q ∷ qs) fresh named = grind (arith, nat_tests, named_fresh next u j qs)

pub broken_fresh : (next : ℕ) (w : List Value) (s : ℕ) (qs : List Taken) → Fresh next qs
    → breaks_before qs w s ≡ true → next < s
broken_fresh next w s [] fresh named = cc
broken_fresh next w s (q ∷ qs) fresh named = grind (arith, nat_tests, broken_fresh next w s qs)

-- so each is between what was pulled and what was taken
pub entries_waiting : (pulled taken : ℕ) (u : List Value) (qs : List Taken) (es : List Entry) → Fresh pulled qs
    → list_all (λ e. names qs u e.place) es ≡ true
    → list_all (λ e. nat_lt e.place taken && nat_le e.start e.place) es ≡ true
    → list_all (λ e. nat_le pulled e.place && nat_lt e.place taken && nat_le e.start e.place) es ≡ true
entries_waiting pulled taken u qs [] fresh covered below = refl
entries_waiting pulled taken u qs (e ∷ es) fresh covered below =
    grind (arith, nat_tests, named_fresh pulled u e.place qs, entries_waiting pulled taken u qs es)

-- a position without rows at the end tells nothing
module _ (queue : List Taken) (q : Taken) where
  pub covered_kept : q.rights.items ≡ [] → (u : List Value) (es : List Entry)
      → list_all (λ e. names (queue ++ q ∷ []) u e.place) es ≡ true → list_all (λ e. names queue u e.place) es ≡ true
  covered_kept none u es = all_weaker _ _ es (λ e named. grind (arith, names_more queue q u e.place))

  pub starts_kept : q.breaks.items ≡ [] → (w : List Value) (o : Option ℕ)
      → IfSome o (λ s. breaks_before (queue ++ q ∷ []) w s ≡ true) → IfSome o (λ s. breaks_before queue w s ≡ true)
  starts_kept none w o = grind (arith, some_weaker, breaks_at)

  pub all_kept : (test : Taken → Bool) → list_all test (queue ++ q ∷ []) ≡ true → list_all test queue ≡ true
  all_kept test all = grind (arith, list_all-append test queue (q ∷ []))

pub rising_kept : (queue : List Taken) (q : Taken) → Rising (queue ++ q ∷ []) → Rising queue
rising_kept [] q rising = tt
rising_kept (r ∷ rs) q rising = (all_kept rs q (λ s. nat_le r.place s.place) rising.0, rising_kept rs q rising.1)
