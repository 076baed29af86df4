-- Tables pushed to a PREVIOUS and pulled from it, one after the other.
use Rattle.std.proofs.Common.{◌≡◌, ℕ, ◌+◌, ◌<◌, ◌≤◌, Bool, true, false, cond, nat_eq, List, [], ◌∷◌, ◌++◌, length, drop}
use Rattle.std.proofs.Common.{refl, ap, ◌∙◌, arith, length-append, append_assoc}
use Rattle.std.proofs.{lemmas.Bool.eqb-false, lemmas.Bool.eqb-true, lemmas.Bool.Decides.nat_tests}
use Rattle.std.proofs.{lemmas.List.drop-drop, lemmas.List.length-drop}
use Rattle.mfotl_model.specs.{Satisfaction.Valuation, Satisfaction.previous, Tables.TableOf, Tables.has}
use Rattle.eval_since.specs.PreviousView.{AdvancesPrevious, FollowsPrevious, PrevOf, previous_due}
use Rattle.relations.proofs.PushedLemmas.{over_push, stand_push}
use Rattle.monitor_nodes.proofs.GrowthLemmas.{stand_split}
use Rattle.monitor_nodes.specs.PreviousFeeding.{PreviousPulled, PreviousPushed, tables_used}

pub pushed_more : {old s new : PrevOf} {front tables : List TableOf} → PreviousPushed old s front
    → PreviousPushed s new tables → PreviousPushed old new (front ++ tables)
pushed_more {old} {s} {new} {front} {tables} before more = grind (arith, length-append, append_assoc, stand_split)

-- what is due has a time, and a table where it is not the first
due_parts : (s : PrevOf) → true ≡ previous_due s → (0 < length s.times) × (tables_used s.pulled 1 ≤ length s.tables)
due_parts s h = (grind (arith, nat_tests), grind (arith, nat_tests))

-- one item more leaves, or none
one_dropped : {X : Type 0} (none : Bool) (k j : ℕ) (xs ys : List X) → ys ≡ drop k xs → (none ≡ true → j ≡ k)
    → (none ≡ false → j ≡ k + 1) → cond none ys (drop 1 ys) ≡ drop j xs
one_dropped true k j xs ys is same more = rw (is, same refl)
one_dropped false k j xs ys is same more = rw (is, more refl, drop-drop)

-- one turn of the loop that pulls
pub pulled_more : {old s new : PrevOf} {tables items : List TableOf} (table : TableOf) → PreviousPulled old s tables
    → true ≡ previous_due s → AdvancesPrevious s new
    → ((t : List ℕ) (a : List Bool) (v : Valuation) → FollowsPrevious s t a v → FollowsPrevious new t a v)
    → table.columns ≡ s.columns → ((t : List ℕ) (a : List Bool) (v : Valuation) → FollowsPrevious s t a v
    → has table v ≡ previous s.interval t a s.pulled) → items ≡ tables ++ table ∷ [] → PreviousPulled old new items
pulled_more {old} {s} {new} {tables} {items} table before ready advances follows over rows made =
    let n : length items ≡ length tables + 1 = rw made (omega (arith, length-append tables (table ∷ []))) in
    let parts = due_parts s ready in
    record {
      interval = cc;
      columns = cc;
      pulled = omega arith;
      times = rw (n, advances.times, before.times, drop-drop);
      known =
          grind (arith, drop-drop);
      kept =
          advances.tables
          ∙ one_dropped (nat_eq s.pulled 0) (tables_used old.pulled (length tables))
          (tables_used old.pulled (length items)) old.tables s.tables before.kept
          (λ e. omega (arith, eqb-true s.pulled 0 e)) (λ e. omega (arith, eqb-false s.pulled 0 e));
      in_times = omega (arith, parts.0, ap length before.times, length-drop {A = ℕ});
      in_tables = omega (arith, parts.1, ap length before.kept, length-drop {A = TableOf});
      over = rw made (over_push old.columns tables table before.over (over ∙ before.columns));
      follows = λ t a v h. follows t a v (before.follows t a v h);
      rows = λ t a v h.
          rw made
          (stand_push (λ i x. has x v ≡ previous old.interval t a i) old.pulled tables table (before.rows t a v h)
          (rw (before.interval, before.pulled) at (rows t a v (before.follows t a v h))));
    }

-- a turn leaves fewer times
pub pulled_fewer : {s new : PrevOf} → true ≡ previous_due s → AdvancesPrevious s new → length new.times < length s.times
pulled_fewer {s} ready advances = rw advances.times (omega (arith, (due_parts s ready).0, length-drop 1 s.times))
