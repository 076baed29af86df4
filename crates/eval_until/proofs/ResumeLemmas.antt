-- What UNTIL keeps with given starts and entries, and that maps with the same look-ups keep alike.
use Rattle.std.proofs.Common.{◌≡◌, ℕ, ◌-◌, ◌<◌, ◌≤◌, Bool, true, false, cond, nat_eq, nat_le, nat_lt, ◌&&◌, ◌||◌, List}
use Rattle.std.proofs.Common.{[], ◌∷◌, length, Option, Some, refl, sym, subst, ap, ◌∙◌, arith}
use Rattle.std.proofs.lemmas.Bool.{and_from, or_left, or_right}
use Rattle.std.proofs.lemmas.Bool.Decides.{nat_tests}
use Rattle.std.specs.{BTreeMap.is_at, Option.IfSome, Option.unwrap_or}
use Rattle.std.specs.List.{AllByRecursion, list_all, list_any}
use Rattle.mfotl_model.specs.{Tables.all_apart, Tables.has_row, Values.row_cmp}
use Rattle.mfotl_model.specs.declared.value.Value.{Value}
use Rattle.relations.specs.KeptRows.{RowsAscend, kept_for, list_for}
use Rattle.relations.proofs.{KeptLemmas.each_kept, QueueLemmas.all_own, QueueLemmas.any_with, TestLemmas.all_weaker}
use Rattle.eval_until.specs.Keeping.{Keeps, Rising, Sized, breaks_before, names}
use Rattle.eval_until.specs.Recalled.{run_begins, is_recalled}
use Rattle.eval_until.specs.Rules.{Ascending, StartsAbove, StartsBelow, Waiting}
use Rattle.until_rows.specs.Rules.{NoneEmpty, PlacesAscend}
use Rattle.eval_until.specs.declared.contents.Taken.{Taken}
use Rattle.until_rows.specs.declared.entries.Entry.{Entry}

-- the rows name the position of each entry that is kept for a row
named_own : (rows : List (List Value × List Entry)) (u : List Value)
    → list_all (λ e. is_recalled rows u e.place) (list_for rows u) ≡ true
named_own [] u = refl
named_own (r ∷ rs) u = by (is_at (row_cmp u) r.0) refl (named_own rs u)
  where
    own : ℕ → Bool
    own j = list_any (λ (e : Entry). nat_eq e.place j && has_row (r.0 ∷ []) u) r.1

    by : (b : Bool) → is_at (row_cmp u) r.0 ≡ b → list_all (λ e. is_recalled rs u e.place) (list_for rs u) ≡ true
        → list_all (λ e. is_recalled (r ∷ rs) u e.place) (unwrap_or (cond b (Some r.1) (kept_for rs u)) []) ≡ true
    by true at rest = all_own (λ (e : Entry). e.place) (is_recalled (r ∷ rs) u) r.1 (λ j there.
        or_left (own j) (is_recalled rs u j)
        (any_with (λ (e : Entry). e.place) (has_row (r.0 ∷ []) u) j r.1
        (or_left (is_at (row_cmp u) r.0) false at) there))
    by false at rest =
        all_weaker (λ (e : Entry). is_recalled rs u e.place) (λ (e : Entry). is_recalled (r ∷ rs) u e.place)
        (list_for rs u) (λ e there. or_right (own e.place) (is_recalled rs u e.place) there) rest

-- the starts break the run of each row before its start
broken_own : (starts : List (List Value × ℕ)) (w : List Value) → IfSome (kept_for starts w) (λ s. 0 < s)
    → IfSome (kept_for starts w) (λ s. run_begins starts w s ≡ true)
broken_own [] w low = tt
broken_own (r ∷ rs) w low = grind (arith, nat_tests, broken_own rs w)

-- a list each of whose items passes
all_pass : {X : Type 0} (p : X → Bool) (xs : List X) → AllByRecursion (λ x. p x ≡ true) xs → list_all p xs ≡ true
all_pass p [] each = refl
all_pass p (x ∷ xs) each = and_from (p x) (list_all p xs) each.0 (all_pass p xs each.1)

-- what each entry that is kept for a row passes, by look-ups, the entries of each pair pass
pub each_passes : (p : Entry → Bool) (rows : List (List Value × List Entry)) → RowsAscend rows
    → ((u : List Value) → list_all p (list_for rows u) ≡ true) → AllByRecursion (λ r. list_all p r.1 ≡ true) rows
each_passes p rows up all = each_kept (λ u es. list_all p es ≡ true) rows up
    (λ u es is. sym (ap (λ o. list_all p (unwrap_or o [])) is) ∙ all u)

-- what each row's entries pass, by look-ups
rows_all : (p : Entry → Bool) (rows : List (List Value × List Entry)) → RowsAscend rows
    → ((u : List Value) → list_all p (list_for rows u) ≡ true) → list_all (λ r. list_all p r.1) rows ≡ true
rows_all p rows up all =
    all_pass (λ (r : List Value × List Entry). list_all p r.1) rows (each_passes p rows up all)

starts_all : (p : ℕ → Bool) (starts : List (List Value × ℕ)) → RowsAscend starts
    → ((w : List Value) → IfSome (kept_for starts w) (λ s. p s ≡ true)) → list_all (λ r. p r.1) starts ≡ true
starts_all p starts up all =
    all_pass (λ (r : List Value × ℕ). p r.1) starts (each_kept (λ w s. p s ≡ true) starts up
    (λ w s is. subst (λ (o : Option ℕ). IfSome o (λ s. p s ≡ true)) is (all w)))

both_some : (P Q R : ℕ → Type 0) → ((s : ℕ) → P s → Q s → R s) → (o : Option ℕ) → IfSome o P → IfSome o Q → IfSome o R
both_some P Q R gives o p q = grind arith

-- what is kept with these starts and entries
pub keeps_resumed : (negated : Bool) (right : List ℕ) (pulled taken : ℕ) (starts : List (List Value × ℕ))
    (rows : List (List Value × List Entry)) (queue : List Taken)
    → all_apart right ≡ true → Sized (length right) rows → NoneEmpty rows → Waiting pulled taken rows
    → Ascending rows → StartsBelow taken starts → (negated ≡ true → StartsAbove pulled starts)
    → RowsAscend rows → (negated ≡ true → RowsAscend starts)
    → ((u : List Value) (j : ℕ) → names queue u j ≡ is_recalled rows u j) → (negated ≡ true → (w : List Value) (s : ℕ)
    → breaks_before queue w s ≡ (breaks_before [] w s || run_begins starts w s))
    → ((test : ℕ → Bool) → list_all (λ q. test q.place) queue ≡ (list_all (λ r. list_all (λ e. test e.place) r.1) rows
    && cond negated (list_all (λ r. test (r.1 - 1)) starts) true))
    → Rising queue → Keeps negated right pulled taken starts rows queue
keeps_resumed negated right pulled taken starts rows queue apart sized some waiting ascend below above up ups same
    breaks tests rising =
    let waits : Entry → Bool = λ e. nat_le pulled e.place && nat_lt e.place taken && nat_le e.start e.place in
    record {
      apart = apart;
      sized = sized;
      some = some;
      ascend = ascend;
      below = grind (arith, all_weaker);
      low = below;
      covered = λ u. all_weaker (λ e. is_recalled rows u e.place) (λ e. names queue u e.place) (list_for rows u)
          (λ e there. same u e.place ∙ there) (named_own rows u);
      breaks = λ is w. both_some (λ s. pulled < s) (λ s. run_begins starts w s ≡ true)
          (λ s. breaks_before queue w s ≡ true) (λ s low there. breaks is w s ∙ there) (kept_for starts w)
          (above is w)
          (broken_own starts w (both_some (λ s. pulled < s) (λ s. pulled < s) (λ s. 0 < s) (λ s low low2. omega arith)
          (kept_for starts w) (above is w) (above is w)));
      rising = rising;
      after = tests (λ p. nat_lt p taken) ∙ and_from (list_all (λ r. list_all (λ e. nat_lt e.place taken) r.1) rows)
          (cond negated (list_all (λ r. nat_lt (r.1 - 1) taken) starts) true)
          (rows_all (λ e. nat_lt e.place taken) rows up (λ u.
          all_weaker waits (λ e. nat_lt e.place taken) (list_for rows u) (λ e h. grind arith) (waiting u)))
          (only negated refl (λ s. nat_lt (s - 1) taken) (λ s low high. grind (arith, nat_tests)));
      fresh = tests (λ p. nat_le pulled p) ∙ and_from (list_all (λ r. list_all (λ e. nat_le pulled e.place) r.1) rows)
          (cond negated (list_all (λ r. nat_le pulled (r.1 - 1)) starts) true)
          (rows_all (λ e. nat_le pulled e.place) rows up (λ u.
          all_weaker waits (λ e. nat_le pulled e.place) (list_for rows u) (λ e h. grind arith) (waiting u)))
          (only negated refl (λ s. nat_le pulled (s - 1)) (λ s low high. grind (arith, nat_tests)));
    }
  where
    only : (n : Bool) → negated ≡ n → (p : ℕ → Bool) → ((s : ℕ) → pulled < s → s ≤ taken → p s ≡ true)
        → cond n (list_all (λ (r : List Value × ℕ). p r.1) starts) true ≡ true
    only true is p gives = starts_all p starts (ups is) (λ w.
        both_some (λ s. pulled < s) (λ s. s ≤ taken) (λ s. p s ≡ true) gives (kept_for starts w) (above is w)
        (below w))
    only false is p gives = refl

-- each row's entries ascend
pub each_ascends : (rows : List (List Value × List Entry)) → RowsAscend rows → Ascending rows
    → AllByRecursion (λ r. PlacesAscend r.1) rows
each_ascends rows up ascend = each_kept (λ u es. PlacesAscend es) rows up (λ u es is.
    subst PlacesAscend (ap (λ o. unwrap_or o []) is) (ascend u))

-- each row has an entry, by look-ups, and of all pairs
pub some_found : (rows : List (List Value × List Entry)) → AllByRecursion (λ r. 0 < length r.1) rows → NoneEmpty rows
some_found [] all u = tt
some_found (r ∷ rs) all u = grind (arith, some_found rs all.1 u)

pub each_some : (rows : List (List Value × List Entry)) → RowsAscend rows → NoneEmpty rows
    → AllByRecursion (λ r. 0 < length r.1) rows
each_some rows up some = each_kept (λ u es. 0 < length es) rows up (λ u es is.
    subst (λ (o : Option (List Entry)). IfSome o (λ fs. 0 < length fs)) is (some u))

-- what is kept in maps with the same look-ups is kept alike
pub keeps_alike : (negated : Bool) (right : List ℕ) (pulled taken : ℕ) (starts more : List (List Value × ℕ))
    (rows new : List (List Value × List Entry)) (queue : List Taken)
    → ((w : List Value) → kept_for more w ≡ kept_for starts w) → ((u : List Value) → kept_for new u ≡ kept_for rows u)
    → Keeps negated right pulled taken starts rows queue → Keeps negated right pulled taken more new queue
keeps_alike negated right pulled taken starts more rows new queue starts_same rows_same keeps = record {
  apart = keeps.apart;
  sized = λ u other. rw (rows_same u) (keeps.sized u other);
  some = λ u. rw (rows_same u) (keeps.some u);
  ascend = λ u. rw (rows_same u) (keeps.ascend u);
  below = λ u. rw (rows_same u) (keeps.below u);
  low = λ w. rw (starts_same w) (keeps.low w);
  covered = λ u. rw (rows_same u) (keeps.covered u);
  breaks = λ is w. rw (starts_same w) (keeps.breaks is w);
  rising = keeps.rising;
  after = keeps.after;
  fresh = keeps.fresh;
}
