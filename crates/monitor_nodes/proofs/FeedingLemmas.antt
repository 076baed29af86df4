-- Tables pushed to a SINCE and pulled from it, one after the other.
use Rattle.std.proofs.Common.{◌≡◌, ℕ, ◌+◌, ◌<◌, Bool, true, List, [], ◌∷◌, ◌++◌, length, sym, ap, ◌∙◌, arith}
use Rattle.std.proofs.Common.{length-append, append_assoc}
use Rattle.std.proofs.{lemmas.Bool.Decides.nat_tests, lemmas.List.drop-drop, lemmas.List.length-drop}
use Rattle.mfotl_model.specs.Satisfaction.{Valuation, since, truth_at}
use Rattle.mfotl_model.specs.Tables.{TableOf, has}
use Rattle.eval_since.specs.SinceView.{Advances, Follows, SinceOf, due}
use Rattle.relations.proofs.PushedLemmas.{over_push, stand_push}
use Rattle.relations.specs.Pushed.{left_holds}
use Rattle.monitor_nodes.proofs.GrowthLemmas.{stand_split}
use Rattle.monitor_nodes.specs.Feeding.{LeftsPushed, RightsPushed, SincePulled}
use Rattle.monitor_nodes.specs.Ordered.{PushedInOrder}

pub lefts_more : {old s new : SinceOf} {front tables : List TableOf} → LeftsPushed old s front
    → LeftsPushed s new tables → LeftsPushed old new (front ++ tables)
lefts_more {old} {s} {new} {front} {tables} before more =
    let place : old.pulled + length (old.lefts ++ front) ≡ old.pulled + length old.lefts + length front =
    omega (arith, length-append old.lefts front) in
    record {
      pushed = rw (more.pushed, before.pushed, append_assoc);
      follows = λ t a b v h stand.
          let parts = stand_split (λ i x. left_holds old.negated x v ≡ truth_at a i) (old.pulled + length old.lefts)
          front tables stand in
          more.follows t a b v (before.follows t a b v h parts.0) (rw (before.pushed, place) parts.1);
    }

pub rights_more : {old s new : SinceOf} {front tables : List TableOf} → RightsPushed old s front
    → RightsPushed s new tables → RightsPushed old new (front ++ tables)
rights_more {old} {s} {new} {front} {tables} before more =
    let place : old.pulled + length (old.rights ++ front) ≡ old.pulled + length old.rights + length front =
    omega (arith, length-append old.rights front) in
    record {
      pushed = rw (more.pushed, before.pushed, append_assoc);
      follows = λ t a b v h stand.
          let parts = stand_split (λ i x. has x v ≡ truth_at b i) (old.pulled + length old.rights) front tables stand in
          more.follows t a b v (before.follows t a b v h parts.0) (rw (before.pushed, place) parts.1);
    }

pub since_due_parts : (s : SinceOf) → due s ≡ true → (0 < length s.times) × (0 < length s.lefts) × (0 < length s.rights)
since_due_parts s h = (grind (arith, nat_tests), grind (arith, nat_tests), grind (arith, nat_tests))

-- one turn of the loop that pulls
pub pulled_more : {columns : List ℕ} {old s new : SinceOf} {tables items : List TableOf} {table : TableOf}
    → SincePulled columns old s tables → true ≡ due s → Advances s new
    → ((t : List ℕ) (a b : List Bool) (v : Valuation) → Follows s t a b v → Follows new t a b v)
    → table.columns ≡ s.window.right → ((t : List ℕ) (a b : List Bool) (v : Valuation) → Follows s t a b v
    → has table v ≡ since s.window.interval t a b s.pulled)
    → PushedInOrder columns table tables items → SincePulled columns old new items
pulled_more {columns} {old} {s} {new} {tables} {items} {table} before ready advances follows over rows pushed =
    let n : length items ≡ length tables + 1 = cc (length-append tables (pushed.ordered ∷ [])) in
    let some = since_due_parts s (sym ready) in
    record {
      pulled = omega arith;
      negated = cc;
      interval = cc;
      left = cc;
      right = cc;
      times = rw (n, advances.times, before.times, drop-drop);
      known =
          grind (arith, drop-drop);
      lefts = rw (n, advances.lefts, before.lefts, drop-drop);
      rights = rw (n, advances.rights, before.rights, drop-drop);
      in_times = omega (arith, some.0, ap length before.times, length-drop {A = ℕ});
      in_lefts = omega (arith, some.1, ap length before.lefts, length-drop {A = TableOf});
      in_rights = omega (arith, some.2, ap length before.rights, length-drop {A = TableOf});
      over = rw pushed.pushed (over_push columns tables pushed.ordered before.over pushed.columns);
      follows = λ t a b v h. follows t a b v (before.follows t a b v h);
      rows = λ t a b v h one other.
          rw pushed.pushed
          (stand_push (λ i x. has x v ≡ since old.window.interval t a b i) old.pulled tables pushed.ordered
          (before.rows t a b v h one other)
          (pushed.same (rw (over, before.right) one) (rw (over, before.right) other) v
          ∙ rw (before.interval, before.pulled) at (rows t a b v (before.follows t a b v h))));
    }
