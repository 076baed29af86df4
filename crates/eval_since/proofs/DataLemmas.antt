-- The plain data of a state is right where the state is, and the state that is resumed from it where the data is.
use Rattle.std.proofs.Common.{◌≡◌, ℕ, suc, ◌+◌, ◌-◌, ◌≤◌, Bool, true, List, [], ◌∷◌, length, map, Some, sym, subst, ap}
use Rattle.std.proofs.Common.{◌∙◌, slice_get, arith}
use Rattle.mfotl_model.specs.{Satisfaction.Valuation, Satisfaction.truth_at, Times.Climbs}
use Rattle.mfotl_model.specs.Tables.{TableOf, all_among, has, has_row, part}
use Rattle.mfotl_model.specs.declared.{interval.Interval.Interval, value.Value.Value}
use Rattle.relations.specs.KeptRows.{RowsAscend}
use Rattle.relations.specs.Pushed.{AreOver, StandFrom, left_holds}
use Rattle.eval_since.specs.{LeftOperand.left_has, SinceBefore.since_before, SinceView.Follows, SinceView.SinceOf}
use Rattle.row_times.specs.{Times.reaches}
use Rattle.eval_since.specs.Recalled.{recalls}
use Rattle.row_times.specs.KeptTimes.{times_for, times_kept}
use Rattle.eval_since.specs.SinceData.{FollowsData, newest_of, setting_of}
use Rattle.eval_since.specs.WindowView.{WindowOf, kept_times, within}
use Rattle.eval_since.specs.declared.recalled.SinceData.{SinceData}
use Rattle.eval_since.proofs.{FollowsLemmas.left_of, FollowsLemmas.right_of, RecalledLemmas.recalls_is}

-- the last time is the newest
pub newest_is : (past : ℕ) (ts : List ℕ) (y : ℕ) → Some y ≡ slice_get ts (length ts - 1) → y ≡ newest_of past ts
newest_is past [] y is = absurd (cc)
newest_is past (t ∷ []) y is = cc
newest_is past (t ∷ u ∷ ts) y is =
    let next : length (t ∷ u ∷ ts) - 1 ≡ suc (length (u ∷ ts) - 1) = omega arith in
    newest_is t (u ∷ ts) y (is ∙ ap (slice_get (t ∷ u ∷ ts)) next)

-- times that never fall up to a later one never fall up to their newest
pub climbs_newest : (past : ℕ) (ts : List ℕ) (y : ℕ) → Climbs past ts y → Climbs past ts (newest_of past ts)
climbs_newest past [] y climbs = omega arith
climbs_newest past (t ∷ ts) y climbs = (climbs.0, climbs_newest t ts y climbs.1)

-- tables over the columns at which two tests say the same stand by the one as by the other
stand_as : (test other : TableOf → Bool) (columns : List ℕ) (a : List Bool) (p : ℕ) (tables : List TableOf)
    → ((table : TableOf) → table.columns ≡ columns → test table ≡ other table) → AreOver columns tables
    → StandFrom (λ i table. test table ≡ truth_at a i) p tables
    → StandFrom (λ i table. other table ≡ truth_at a i) p tables
stand_as test other columns a p [] same over stands = tt
stand_as test other columns a p (x ∷ xs) same over stands =
    (sym (same x over.0) ∙ stands.0, stand_as test other columns a (p + 1) xs same over.1 stands.1)

-- from a state to its data
pub data_follows : {s : SinceOf} {t : List ℕ} {a b : List Bool} {v : Valuation} (kept : SinceData) → Follows s t a b v
    → all_among s.window.left s.window.right ≡ true → AreOver s.window.left s.lefts → AreOver s.window.right s.rights
    → kept.pulled ≡ s.pulled → kept.lefts.items ≡ s.lefts → kept.rights.items ≡ s.rights
    → ((x : ℕ) (u : List Value) → recalls s.window.interval kept.rows.items x u ≡ within s.window x u)
    → FollowsData (setting_of s) s.window.last s.times kept t a b v
data_follows {s} {t} {a} {b} {v} kept f inside over_left over pulled lefts rights rows =
    let left = s.window.left in
    let right = s.window.right in
    record {
      last = rw pulled f.last;
      times = rw pulled f.times;
      lefts = rw (pulled, lefts) (stand_as (λ x. left_has s.negated x.rows (part right left (map v right)))
          (λ x. left_holds s.negated x v) left a s.pulled s.lefts
          (λ x columns. left_of x left right s.negated v inside columns) over_left f.lefts);
      rights = rw (pulled, rights) (stand_as (λ x. has_row x.rows (map v right)) (λ x. has x v) right b s.pulled
          s.rights (λ x columns. right_of x right v columns) over f.rights);
      window = rw pulled (λ x low. rows x (map v right) ∙ f.window x low);
    }

-- from data to the state that is resumed
pub follows_resumed : (w : WindowOf) (interval : Interval) (left right : List ℕ) (negated : Bool) (past newest : ℕ)
    (next : List ℕ) (kept : SinceData) (t : List ℕ) (a b : List Bool) (v : Valuation)
    → w.interval ≡ interval → w.left ≡ left → w.right ≡ right → w.last ≡ past
    → all_among left right ≡ true → AreOver left kept.lefts.items → AreOver right kept.rights.items
    → RowsAscend (times_kept kept.rows.items)
    → ((u : List Value) → kept_times w u ≡ times_for kept.rows.items u)
    → FollowsData (record { interval = interval; left = left; right = right; negated = negated })
    past next kept t a b v
    → Follows (record {
      window = w;
      negated = negated;
      pulled = kept.pulled;
      newest = newest;
      times = next;
      lefts = kept.lefts.items;
      rights = kept.rights.items;
    }) t a b v
follows_resumed w interval left right negated past newest next kept t a b v ei el er ep inside over_left over up
    found f =
    record {
      last = λ some. ep ∙ f.last some;
      times = f.times;
      lefts = rw (el, er) (stand_as (λ x. left_holds negated x v)
          (λ x. left_has negated x.rows (part right left (map v right))) left a kept.pulled kept.lefts.items
          (λ x columns. sym (left_of x left right negated v inside columns)) over_left f.lefts);
      rights = rw er (stand_as (λ x. has x v) (λ x. has_row x.rows (map v right)) right b kept.pulled
          kept.rights.items (λ x columns. sym (right_of x right v columns)) over f.rights);
      window = λ x low.
          ap (λ ts. reaches w.interval ts x) (found (map v w.right))
          ∙ (λ i. reaches (ei i) (times_for kept.rows.items (map v (er i))) x)
          ∙ sym (recalls_is interval kept.rows.items x (map v right) up)
          ∙ f.window x (λ some. subst (λ l. l ≤ x) ep (low some))
          ∙ (λ i. since_before (sym ei i) t a b kept.pulled x);
    }
