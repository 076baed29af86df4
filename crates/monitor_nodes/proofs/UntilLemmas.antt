-- Tables pushed to an UNTIL and pulled from it, one after the other.
use Rattle.std.proofs.Common.{◌≡◌, ℕ, ◌+◌, ◌<◌, Bool, true, List, [], ◌∷◌, ◌++◌, length, refl, sym, ap, ◌∙◌, inl, inr}
use Rattle.std.proofs.Common.{arith, length-append, append_assoc}
use Rattle.std.proofs.{lemmas.Bool.cases_lt, lemmas.List.drop-drop, lemmas.List.length-drop}
use Rattle.mfotl_model.specs.Satisfaction.{Valuation, truth_at, until}
use Rattle.mfotl_model.specs.{Tables.TableOf, Tables.has, Times.NeverFalls}
use Rattle.eval_until.specs.UntilView.{Advances, Follows, FollowsLeft, Takes, UntilOf, due, to_take}
use Rattle.relations.proofs.PushedLemmas.{over_push, stand_push}
use Rattle.relations.specs.Pushed.{left_holds}
use Rattle.monitor_nodes.proofs.GrowthLemmas.{stand_split}
use Rattle.monitor_nodes.specs.Ordered.{PushedInOrder}
use Rattle.monitor_nodes.specs.UntilFeeding.{UntilLeftsPushed, UntilPulled, UntilRightsPushed, until_past}

pub lefts_more : {old s new : UntilOf} {front tables : List TableOf} → UntilLeftsPushed old s front
    → UntilLeftsPushed s new tables → UntilLeftsPushed old new (front ++ tables)
lefts_more {old} {s} {new} {front} {tables} before more =
    let place : old.ahead.taken + length (old.lefts ++ front) ≡ old.ahead.taken + length old.lefts + length front =
    omega (arith, length-append old.lefts front) in
    record {
      pushed = rw (more.pushed, before.pushed, append_assoc);
      left = λ a v h stand.
          let parts = stand_split (λ i x. left_holds old.ahead.negated x v ≡ truth_at a i)
          (old.ahead.taken + length old.lefts) front tables stand in
          more.left a v (before.left a v h parts.0) (rw (before.pushed, place) parts.1);
      follows = λ t a b v h stand.
          let parts = stand_split (λ i x. left_holds old.ahead.negated x v ≡ truth_at a i)
          (old.ahead.taken + length old.lefts) front tables stand in
          more.follows t a b v (before.follows t a b v h parts.0) (rw (before.pushed, place) parts.1);
    }

pub rights_more : {old s new : UntilOf} {front tables : List TableOf} → UntilRightsPushed old s front
    → UntilRightsPushed s new tables → UntilRightsPushed old new (front ++ tables)
rights_more {old} {s} {new} {front} {tables} before more = grind (arith, length-append, append_assoc, stand_split)

pub pulled_none : (columns : List ℕ) (s : UntilOf) → UntilPulled columns s s []
pulled_none columns s =
    record {
      seen = 0;
      pulled = omega arith;
      taken = omega arith;
      interval = refl;
      left_columns = refl;
      right_columns = refl;
      negated = refl;
      times = refl;
      lefts = refl;
      rights = refl;
      in_times = omega arith;
      in_lefts = omega arith;
      in_rights = omega arith;
      were_due = λ n low. absurd (omega arith);
      over = tt;
      left = λ a v h. h;
      follows = λ t a b v h. h;
      rows = λ t a b v h never one other. tt;
    }

-- a time is kept of the position that is due
due_timed : (s : UntilOf) → due s ≡ true → 0 < length s.times
due_timed s h = grind arith

-- whether the next position is due hangs on the times and counts alone
pub due_on : {columns : List ℕ} {old s : UntilOf} {tables : List TableOf} → UntilPulled columns old s tables
    → due s ≡ due (until_past (length tables) old)
due_on {old = old} {s = s} {tables = tables} before = grind (arith, length-drop)

-- the tables of positions were taken that could be
pub pulled_end : {columns : List ℕ} {old s new : UntilOf} {tables : List TableOf}
    → UntilPulled columns old s tables → Takes (to_take s) s new
    → ((a : List Bool) (v : Valuation) → FollowsLeft s a v → FollowsLeft new a v)
    → ((t : List ℕ) (a b : List Bool) (v : Valuation) → Follows s t a b v → Follows new t a b v)
    → UntilPulled columns old new tables
pulled_end {old = old} {s = s} before takes left follows =
    record {
      seen = before.seen + to_take s;
      pulled = takes.pulled ∙ before.pulled;
      taken = omega arith;
      interval = cc;
      left_columns = cc;
      right_columns = cc;
      negated = cc;
      times = cc;
      lefts = rw (takes.lefts, before.lefts, drop-drop);
      rights = rw (takes.rights, before.rights, drop-drop);
      in_times = before.in_times;
      in_lefts = omega (arith, ap length before.lefts, length-drop {A = TableOf});
      in_rights = omega (arith, ap length before.rights, length-drop {A = TableOf});
      were_due = before.were_due;
      over = before.over;
      left = λ a v h. left a v (before.left a v h);
      follows = λ t a b v h. follows t a b v (before.follows t a b v h);
      rows = before.rows;
    }

-- one turn of the loop that pulls
pub pulled_more : {columns : List ℕ} {old s new : UntilOf} {tables items : List TableOf} {table : TableOf}
    → UntilPulled columns old s tables → true ≡ due s → Advances (to_take s) s new
    → ((a : List Bool) (v : Valuation) → FollowsLeft s a v → FollowsLeft new a v)
    → ((t : List ℕ) (a b : List Bool) (v : Valuation) → Follows s t a b v → Follows new t a b v)
    → table.columns ≡ s.ahead.right → ((t : List ℕ) (a b : List Bool) (v : Valuation) → Follows s t a b v → NeverFalls t
    → has table v ≡ until s.ahead.interval t a b s.ahead.pulled)
    → PushedInOrder columns table tables items → UntilPulled columns old new items
pulled_more {columns} {old} {s} {new} {tables} {items} {table} before ready advances left follows over rows pushed =
    let n : length items ≡ length tables + 1 = cc (length-append tables (pushed.ordered ∷ [])) in
    record {
      seen = before.seen + to_take s;
      pulled = omega arith;
      taken = omega arith;
      interval = cc;
      left_columns = cc;
      right_columns = cc;
      negated = cc;
      times = rw (n, advances.times, before.times, drop-drop);
      lefts = rw (advances.lefts, before.lefts, drop-drop);
      rights = rw (advances.rights, before.rights, drop-drop);
      in_times = omega (arith, due_timed s (sym ready), ap length before.times, length-drop {A = ℕ});
      in_lefts = omega (arith, ap length before.lefts, length-drop {A = TableOf});
      in_rights = omega (arith, ap length before.rights, length-drop {A = TableOf});
      were_due = λ k low. elim (cases_lt k (length tables)) [
        | inl less ↦ before.were_due k less
        | inr most ↦
            let last : k ≡ length tables = omega arith in
            ap (λ m. due (until_past m old)) last ∙ sym (due_on before) ∙ sym ready
      ];
      over = rw pushed.pushed (over_push columns tables pushed.ordered before.over pushed.columns);
      left = λ a v h. left a v (before.left a v h);
      follows = λ t a b v h. follows t a b v (before.follows t a b v h);
      rows = grind (arith, stand_push);
    }

-- a turn leaves fewer times
pub pulled_fewer : {s new : UntilOf} → true ≡ due s → Advances (to_take s) s new → length new.times < length s.times
pulled_fewer {s} ready advances = rw advances.times (omega (arith, due_timed s (sym ready), length-drop 1 s.times))
