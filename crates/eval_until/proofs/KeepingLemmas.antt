-- What UNTIL keeps: one position is taken, one is pulled.
use Rattle.std.proofs.Common.{◌≡◌, ℕ, ◌+◌, ◌<◌, ◌≤◌, Bool, true, false, cond, nat_eq, nat_le, nat_lt, ◌&&◌, ◌||◌, List}
use Rattle.std.proofs.Common.{[], ◌∷◌, ◌++◌, Option, Some, None, length, refl, ap, ◌∙◌, arith, inl, inr}
use Rattle.std.proofs.{lemmas.Bool.Decides.nat_tests, lemmas.List.Folds.list_any-append}
use Rattle.std.specs.{List.list_all, Option.IfSome, Option.unwrap_or}
use Rattle.mfotl_model.specs.Tables.{all_sized, has_row, part}
use Rattle.mfotl_model.specs.declared.{interval.Interval.Interval, value.Value.Value}
use Rattle.relations.specs.{KeptRows.kept_for, KeptRows.list_for, Pushed.turned}
use Rattle.relations.proofs.{MapLemmas.either, TableRows.all_rows, TableRows.lacks_other, TestLemmas.all_push}
use Rattle.relations.proofs.{TestLemmas.all_weaker}
use Rattle.eval_until.specs.declared.contents.Taken.{Taken}
use Rattle.until_rows.specs.declared.entries.Entry.{Entry}
use Rattle.until_rows.specs.{Entries.meets, Entries.met_by, Starts.start_of, Starts.start_taken}
use Rattle.eval_until.specs.Keeping.{Below, IsLater, Keeps, Queues, Sized, breaks_before, names}
use Rattle.until_rows.specs.Rules.{NoneEmpty, PlacesAscend, all_before}
use Rattle.eval_until.specs.Rules.{StartsAbove, Waiting}
use Rattle.until_rows.proofs.EntriesLemmas.{ascend_push}
use Rattle.eval_until.proofs.QueueLemmas.{after_push, breaks_last, breaks_push, broken_fresh, entries_waiting, all_kept}
use Rattle.eval_until.proofs.QueueLemmas.{covered_kept, fresh_push, names_last, names_push, rising_kept, rising_push}
use Rattle.eval_until.proofs.QueueLemmas.{some_weaker, starts_kept}

below_more : (p : ℕ) (es : List Entry) → list_all (λ e. nat_lt e.place p && nat_le e.start e.place) es ≡ true
    → list_all (λ e. nat_lt e.place (p + 1) && nat_le e.start e.place) es ≡ true
below_more p es = all_weaker _ _ es (λ e below. grind (arith, nat_tests))

before_is : (p : ℕ) (es : List Entry) → list_all (λ e. nat_lt e.place p && nat_le e.start e.place) es ≡ true
    → all_before p es ≡ true
before_is p es = all_weaker _ _ es (λ e below. grind arith)

-- before a position is taken, no entry stands there
pub all_before_taken : (p : ℕ) (rows : List (List Value × List Entry)) → Below p rows → (u : List Value)
    → all_before p (list_for rows u) ≡ true
all_before_taken p rows below u = before_is p (list_for rows u) (below u)

-- no run begins behind the positions taken
start_low : (negated : Bool) (p : ℕ) (o : Option ℕ) → IfSome o (λ s. s ≤ p) → unwrap_or o (cond negated 0 p) ≤ p
start_low negated p o low = grind arith

taken_low : (negated has : Bool) (p s : ℕ) (old new : Option ℕ) → IfSome old (λ x. x ≤ p) → s ≤ p
    → new ≡ cond negated (cond has (Some (p + 1)) old) (cond has (Some s) None) → IfSome new (λ x. x ≤ p + 1)
taken_low negated has p s old new low l e = grind arith

-- one position was taken
module _ (negated : Bool) (right left : List ℕ) (pulled ts : ℕ) (lefts : List (List Value)) (q : Taken)
    (starts more : List (List Value × ℕ)) (rows new : List (List Value × List Entry)) (queue : List Taken) where
  -- the entry of a row of the right operand's table
  abbrev pub entry : List Value → Entry
  entry u = record { place = q.place; start = start_of negated q.place starts (part right left u); ts = ts }

  pub record Stepped : Type 0 where
    pub ahead : pulled ≤ q.place
    pub sized : all_sized (length right) q.rights.items ≡ true
    pub kept : Keeps negated right pulled q.place starts rows queue
    pub breaks : negated ≡ true → q.breaks.items ≡ lefts
    pub entries : (u : List Value) → list_for new u
        ≡ cond (has_row q.rights.items u) (list_for rows u ++ entry u ∷ []) (list_for rows u)
    pub some : NoneEmpty rows → NoneEmpty new
    pub runs : (w : List Value) → kept_for more w ≡ start_taken negated q.place lefts starts w

  pub kept_taken : Stepped → Keeps negated right pulled (q.place + 1) more new (queue ++ q ∷ [])
  kept_taken j = record {
    apart = j.kept.apart;
    sized = λ u apart. j.entries u
        ∙ ap (λ b. cond b (list_for rows u ++ entry u ∷ []) (list_for rows u))
        (lacks_other (length right) q.rights.items u j.sized apart)
        ∙ j.kept.sized u apart;
    some = j.some j.kept.some;
    ascend = λ u. either PlacesAscend (has_row q.rights.items u) (list_for rows u ++ entry u ∷ []) (list_for rows u)
        (list_for new u) (j.entries u)
        (ascend_push (list_for rows u) (entry u) (j.kept.ascend u) (all_before_taken q.place rows j.kept.below u))
        (j.kept.ascend u);
    below = λ u.
        let low = start_low negated q.place (kept_for starts (part right left u)) (j.kept.low (part right left u)) in
        let before = below_more q.place (list_for rows u) (j.kept.below u) in
        let passes : List Entry → Type 0 = λ es.
        list_all (λ e. nat_lt e.place (q.place + 1) && nat_le e.start e.place) es ≡ true in
        either passes (has_row q.rights.items u) (list_for rows u ++ entry u ∷ []) (list_for rows u) (list_for new u)
        (j.entries u)
        (all_push (λ e. nat_lt e.place (q.place + 1) && nat_le e.start e.place) (list_for rows u) (entry u) before
        (grind (arith, nat_tests)))
        before;
    low = λ w. taken_low negated (has_row lefts w) q.place (start_of false q.place starts w)
        (kept_for starts w) (kept_for more w) (j.kept.low w)
        (start_low false q.place (kept_for starts w) (j.kept.low w)) (j.runs w);
    covered = λ u. by_rows j u (has_row q.rights.items u) refl (j.entries u);
    breaks = λ is w. by_breaks j w is (has_row lefts w) refl (j.runs w);
    rising = rising_push q.place queue q j.kept.rising j.kept.after refl;
    after = after_push q.place queue q j.kept.after refl;
    fresh = fresh_push pulled queue q j.kept.fresh j.ahead;
  }
    where
      by_rows : Stepped → (u : List Value) (b : Bool) → has_row q.rights.items u ≡ b
          → list_for new u ≡ cond b (list_for rows u ++ entry u ∷ []) (list_for rows u)
          → list_all (λ e. names (queue ++ q ∷ []) u e.place) (list_for new u) ≡ true
      by_rows j u true has e = rw e (all_push (λ f. names (queue ++ q ∷ []) u f.place) (list_for rows u) (entry u)
          (names_push queue q u (list_for rows u) (j.kept.covered u)) (names_last queue q u has))
      by_rows j u false has e = rw e (names_push queue q u (list_for rows u) (j.kept.covered u))

      by_breaks : Stepped → (w : List Value) → negated ≡ true → (b : Bool) → has_row lefts w ≡ b
          → kept_for more w ≡ cond negated (cond b (Some (q.place + 1)) (kept_for starts w))
          (cond b (Some (start_of false q.place starts w)) None)
          → IfSome (kept_for more w) (λ s. breaks_before (queue ++ q ∷ []) w s ≡ true)
      by_breaks j w is true has e = rw (e, is) (breaks_last queue q w (rw (j.breaks is) has))
      by_breaks j w is false has e = rw (e, is) (breaks_push queue q w (kept_for starts w) (j.kept.breaks is w))

-- a position without rows needn't go into the queue
pub kept_queued : (negated : Bool) (right : List ℕ) (pulled taken : ℕ) (starts : List (List Value × ℕ))
    (rows : List (List Value × List Entry)) (queue new : List Taken) (q : Taken) → Queues queue q new
    → Keeps negated right pulled taken starts rows (queue ++ q ∷ []) → Keeps negated right pulled taken starts rows new
kept_queued negated right pulled taken starts rows queue new q (inl is) kept = rw is kept
kept_queued negated right pulled taken starts rows queue new q (inr none) kept = rw none.0 (record {
  apart = kept.apart;
  sized = kept.sized;
  some = kept.some;
  ascend = kept.ascend;
  below = kept.below;
  low = kept.low;
  covered = λ u. covered_kept queue q none.1.0 u (list_for rows u) (kept.covered u);
  breaks = λ is w. starts_kept queue q none.1.1 w (kept_for starts w) (kept.breaks is w);
  rising = rising_kept queue q kept.rising;
  after = all_kept queue q (λ r. nat_lt r.place taken) kept.after;
  fresh = all_kept queue q (λ r. nat_le pulled r.place) kept.fresh;
})

-- what an entry more meets
pub met_taken : (interval : Interval) (i x : ℕ) (b : Bool) (old new : List Entry) (e : Entry)
    → new ≡ cond b (old ++ e ∷ []) old
    → met_by interval i x new ≡ (met_by interval i x old || (b && meets interval i x e))
met_taken interval i x b old new e step = grind (arith, list_any-append (meets interval i x) old (e ∷ []))

-- where a run begins after one position more
pub start_stepped : (negated has : Bool) (p d : ℕ) (old new : Option ℕ) → d ≡ unwrap_or old (cond negated 0 p)
    → new ≡ cond negated (cond has (Some (p + 1)) old) (cond has (Some (unwrap_or old p)) None)
    → unwrap_or new (cond negated 0 (p + 1)) ≡ cond (turned negated has) d (p + 1)
start_stepped negated has p d old new was e = grind arith

pub later_low : (negated : Bool) (next p : ℕ) (old new : Option ℕ) → IsLater negated next old new
    → IfSome old (λ s. s ≤ p) → IfSome new (λ s. s ≤ p)
later_low negated next p old new later low = grind (arith, nat_tests)

-- a run that isn't behind next tells the same of each position from there on as one that began with the first
pub start_later : (negated : Bool) (next taken i : ℕ) (old new : Option ℕ) → next ≤ i → IsLater negated next old new
    → nat_le (unwrap_or new (cond negated 0 taken)) i ≡ nat_le (unwrap_or old (cond negated 0 taken)) i
start_later negated next taken i old new l later = grind (arith, nat_tests)

-- what is kept is of positions that were taken and not pulled
pub waiting_is : (negated : Bool) (right : List ℕ) (pulled taken : ℕ) (starts : List (List Value × ℕ))
    (rows : List (List Value × List Entry)) (queue : List Taken)
    → Keeps negated right pulled taken starts rows queue → Waiting pulled taken rows
waiting_is negated right pulled taken starts rows queue kept = λ u.
    entries_waiting pulled taken u queue (list_for rows u) kept.fresh (kept.covered u) (kept.below u)

pub above_is : (negated : Bool) (right : List ℕ) (pulled taken : ℕ) (starts : List (List Value × ℕ))
    (rows : List (List Value × List Entry)) (queue : List Taken)
    → Keeps negated right pulled taken starts rows queue → negated ≡ true → StartsAbove pulled starts
above_is negated right pulled taken starts rows queue kept is = λ w.
    some_weaker (λ s. breaks_before queue w s ≡ true) (λ s. pulled < s) (kept_for starts w)
    (λ s named. broken_fresh pulled w s queue kept.fresh named) (kept.breaks is w)

-- the rows of which an entry meets have as many values as columns
pub sized_met : (interval : Interval) (i x n : ℕ) (rows : List (List Value × List Entry)) (out : List (List Value))
    → Sized n rows → ((u : List Value) → has_row out u ≡ true → met_by interval i x (list_for rows u) ≡ true)
    → all_sized n out ≡ true
sized_met interval i x n rows out sized met =
    all_rows (λ row. nat_eq (length row) n) out (λ row there. grind (arith, sized row, met row there))
