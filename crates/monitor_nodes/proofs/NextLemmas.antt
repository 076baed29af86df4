-- Tables pushed to a NEXT and pulled from it, one after the other.
use Rattle.std.proofs.Common.{◌≡◌, ℕ, ◌+◌, ◌<◌, Bool, true, false, cond, List, [], ◌∷◌, ◌++◌, length, sym, ap, ◌∙◌}
use Rattle.std.proofs.Common.{arith, length-append, append-nil, append_assoc}
use Rattle.std.proofs.{lemmas.Bool.Decides.nat_tests, lemmas.List.drop-drop, lemmas.List.length-drop}
use Rattle.mfotl_model.specs.Satisfaction.{Valuation, next, truth_at}
use Rattle.mfotl_model.specs.Tables.{TableOf, has}
use Rattle.eval_until.specs.NextView.{AdvancesNext, FollowsNext, NextOf, next_due, tables_pushed, with_table}
use Rattle.relations.proofs.PushedLemmas.{over_push, stand_push}
use Rattle.monitor_nodes.proofs.GrowthLemmas.{stand_split}
use Rattle.monitor_nodes.specs.NextFeeding.{NextPulled, NextPushed, next_kept, next_started}

fed_none : (s : NextOf) (b : Bool) → record s { started = b }
    ≡ record s { started = next_started b []; tables = s.tables ++ next_kept b [] }
fed_none s b = grind (arith, append-nil)

pub pushed_none : (s : NextOf) → NextPushed s s []
pushed_none s = record { pushed = fed_none s s.started; follows = λ bare t a v h stand. h }

-- one table more
fed_more : (s : NextOf) (b : Bool) (front : List TableOf) (table : TableOf)
    → with_table (record s { started = next_started b front; tables = s.tables ++ next_kept b front }) table
    ≡ record s {
      started = next_started b (front ++ table ∷ []);
      tables =
          s.tables ++ next_kept b (front ++ table ∷ []);
    }
fed_more s b front table = grind (arith, append_assoc)

-- how many tables were pushed
pub pushed_count : (b : Bool) (p : ℕ) (xs front : List TableOf) → (b ≡ false → (p ≡ 0) × (length xs ≡ 0))
    → cond (next_started b front) (p + 1 + length (xs ++ next_kept b front)) 0
    ≡ cond b (p + 1 + length xs) 0 + length front
pushed_count b p xs front bare = grind (arith, length-append)

pub pushed_more : {old s new : NextOf} {front : List TableOf} (table : TableOf) → NextPushed old s front
    → new ≡ with_table s table → ((t : List ℕ) (a : List Bool) (v : Valuation) → FollowsNext s t a v
    → has table v ≡ truth_at a (tables_pushed s) → FollowsNext new t a v) → NextPushed old new (front ++ table ∷ [])
pushed_more {old} {s} {new} {front} table before pushed follows = grind (arith, fed_more, stand_split, pushed_count)

due_parts : (s : NextOf) → true ≡ next_due s → (1 < length s.times) × (s.started ≡ true) × (0 < length s.tables)
due_parts s h = (grind (arith, nat_tests), grind (arith, nat_tests), grind (arith, nat_tests))

-- one turn of the loop that pulls
pub pulled_more : {old s new : NextOf} {tables items : List TableOf} (table : TableOf) → NextPulled old s tables
    → true ≡ next_due s → AdvancesNext s new
    → ((t : List ℕ) (a : List Bool) (v : Valuation) → FollowsNext s t a v → FollowsNext new t a v)
    → table.columns ≡ s.columns
    → ((t : List ℕ) (a : List Bool) (v : Valuation) → FollowsNext s t a v → has table v ≡ next s.interval t a s.pulled)
    → items ≡ tables ++ table ∷ [] → NextPulled old new items
pulled_more {old} {s} {new} {tables} {items} table before ready advances follows over rows made =
    let n : length items ≡ length tables + 1 = rw made (omega (arith, length-append tables (table ∷ []))) in
    let parts = due_parts s ready in
    record {
      interval = cc;
      columns = cc;
      pulled = omega arith;
      times = rw (n, advances.times, before.times, drop-drop);
      started = cc;
      kept = rw (n, advances.tables, before.kept, drop-drop);
      in_times = omega (arith, parts.0, ap length before.times, length-drop {A = ℕ});
      in_tables = omega (arith, parts.2, ap length before.kept, length-drop {A = TableOf});
      begun = λ some. sym before.started ∙ parts.1;
      over = rw made (over_push old.columns tables table before.over (over ∙ before.columns));
      follows = λ t a v h. follows t a v (before.follows t a v h);
      rows = λ t a v h.
          rw made
          (stand_push (λ i x. has x v ≡ next old.interval t a i) old.pulled tables table (before.rows t a v h)
          (rw (before.interval, before.pulled) at (rows t a v (before.follows t a v h))));
    }

-- a turn leaves fewer times
pub pulled_fewer : {s new : NextOf} → true ≡ next_due s → AdvancesNext s new → length new.times < length s.times
pulled_fewer {s} ready advances = rw advances.times (omega (arith, (due_parts s ready).0, length-drop 1 s.times))
