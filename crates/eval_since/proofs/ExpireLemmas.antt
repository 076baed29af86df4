-- Forgetting old times by the tables that came with them.
use Rattle.std.proofs.Common.{◌≡◌, ℕ, zero, suc, ◌-◌, ◌<◌, ◌≤◌, Bool, true, false, cond, nat_le, ◌&&◌, List, [], ◌∷◌}
use Rattle.std.proofs.Common.{◌++◌, Option, get_or, length, nat_lt, refl, inl, inr, arith}
use Rattle.std.proofs.{lemmas.Bool.and_from, lemmas.Bool.Decides.nat_tests, lemmas.List.Folds.list_any-append}
use Rattle.std.proofs.{lemmas.List.Folds.list_all-append, lemmas.Grind.common_steps}
use Rattle.std.specs.{BTreeMap.is_at, List.list_all, List.Sorted.IsStrictlyIncreasing, Option.IfSome}
use Rattle.mfotl_model.specs.{Values.row_cmp, Tables.has_row, Tables.part}
use Rattle.mfotl_model.specs.declared.value.Value.{Value}
use Rattle.row_times.specs.{PackedRows.packed_rows, Groups.times_at}
use Rattle.eval_since.specs.declared.contents.Dated.{Dated}
use Rattle.row_times.specs.Times.{ArePast, added, recent}
use Rattle.eval_since.specs.Windows.{Placed, IsThinned, names, Rising, NotAfter, Fresh, FindsOldTimes, Bounded}
use Rattle.eval_since.specs.Windows.{EachHasRows, Queues}
use Rattle.relations.proofs.{MapLemmas.either, QueueLemmas.rises_push, TestLemmas.all_push, TestLemmas.all_weaker}
use Rattle.row_times.proofs.{GroupLemmas.recent_none, RuleLemmas.increasing_recent}
use Rattle.row_times.proofs.TwiceLemmas.{past_added, recent_twice}

pub thin_more : (hi x : ℕ) (old cur new : List ℕ) (b : Bool) → IsThinned hi x old cur
    → new ≡ cond b (recent hi x cur) cur → IsThinned hi x old new
thin_more hi x old cur new b thin e = grind (arith, recent_twice hi x old)

pub nothing_thinned : (hi x : ℕ) (cur new : List ℕ) (b : Bool) → cur ≡ [] → new ≡ cond b (recent hi x cur) cur
    → new ≡ []
nothing_thinned hi x cur new b none e = grind (arith, recent_none hi x)

-- the times that are no further back than hi stand in the rest of the queue
names_recent : (hi x : ℕ) (d : Dated) (ds : List Dated) (v : List Value) (ys : List ℕ) → hi < x - d.ts
    → list_all (names (d ∷ ds) v) ys ≡ true → list_all (names ds v) (recent hi x ys) ≡ true
unfolding recent
names_recent hi x d ds v [] far all = refl
names_recent hi x d ds v (y ∷ ys) far all = grind (arith, nat_tests, names_recent hi x d ds v ys far)

-- a row that the first table lacks stands in the rest
names_other : (d : Dated) (ds : List Dated) (v : List Value) (ys : List ℕ) → has_row (packed_rows d.rows) v ≡ false
    → list_all (names (d ∷ ds) v) ys ≡ true → list_all (names ds v) ys ≡ true
names_other d ds v ys lacks all = grind arith

pub covered_more : (hi x : ℕ) (right left : List ℕ) (d : Dated) (ds : List Dated) (q v : List Value)
    (cur new : List (List Value × List (List Value × List ℕ)))
    → hi < x - d.ts → Placed right left cur → list_all (names (d ∷ ds) v) (times_at cur q v) ≡ true
    → times_at new q v ≡ cond (is_at (row_cmp (part right left v)) q && has_row (packed_rows d.rows) v)
    (recent hi x (times_at cur q v)) (times_at cur q v) → list_all (names ds v) (times_at new q v) ≡ true
covered_more hi x right left d ds q v cur new far placed all step = grind (arith, names_recent, names_other)

-- where the first table is recent, all are
pub fresh_front : (hi x : ℕ) (queue : List Dated) (d : Dated) → d ≡ get_or queue 0 d → Rising queue → x - d.ts ≤ hi
    → Fresh hi x queue
fresh_front hi x queue d e rising near = grind (arith, common_steps, and_from, all_weaker)

pub front_far : (hi x : ℕ) (queue rest : List Dated) (d f : Dated) → queue ≡ f ∷ rest → d ≡ get_or queue 0 d
    → hi < x - d.ts → hi < x - f.ts
front_far hi x queue rest d f is e far = grind arith

pub not_after_later : (x y : ℕ) (ds : List Dated) → x ≤ y → NotAfter x ds → NotAfter y ds
not_after_later x y ds l all = grind (arith, all_weaker)

not_after_push : (x : ℕ) (ds : List Dated) (d : Dated) → NotAfter x ds → d.ts ≤ x → NotAfter x (ds ++ d ∷ [])
not_after_push x ds d all l = all_push (λ e. nat_le e.ts x) ds d all (grind (arith, nat_tests))

names_push : (ds : List Dated) (d : Dated) (v : List Value) (ys : List ℕ) → list_all (names ds v) ys ≡ true
    → list_all (names (ds ++ d ∷ []) v) ys ≡ true
names_push ds d v [] all = refl
names_push ds d v (y ∷ ys) all = grind (arith, list_any-append, names_push ds d v ys)

names_added : (ds : List Dated) (d : Dated) (v : List Value) (bounded : Bool) (ys : List ℕ)
    → has_row (packed_rows d.rows) v ≡ true → list_all (names (ds ++ d ∷ []) v) ys ≡ true
    → list_all (names (ds ++ d ∷ []) v) (added bounded ys d.ts) ≡ true
unfolding added
names_added ds d v bounded ys h all = grind (arith, list_any-append, list_all-append)

-- the queue with one more table has each kept time
covered_push : (ds : List Dated) (d : Dated) (v : List Value) (bounded holds at : Bool) (old held new : List ℕ)
    → list_all (names ds v) old ≡ true → held ≡ cond holds old []
    → new ≡ cond (at && has_row (packed_rows d.rows) v) (added bounded held d.ts) held
    → list_all (names (ds ++ d ∷ []) v) new ≡ true
covered_push ds d v bounded holds at old held new all first second = grind (arith, names_push, names_added)

-- without a row more the kept times are those that were kept before
covered_left : (ds : List Dated) (v : List Value) (more : List ℕ) (holds at : Bool) (old held new : List ℕ)
    → list_all (names ds v) old ≡ true → held ≡ cond holds old [] → new ≡ cond (at && has_row [] v) more held
    → list_all (names ds v) new ≡ true
covered_left ds v more holds at old held new all first second = grind arith

-- a time goes into the queue with its rows, or has none: each kept time stands there
pub covered_put : (ds put : List Dated) (ts : ℕ) (rows : List (List Value)) (v : List Value) (bounded holds at : Bool)
    (old held new : List ℕ) → Queues ds ts rows put → list_all (names ds v) old ≡ true → held ≡ cond holds old []
    → new ≡ cond (at && has_row rows v) (added bounded held ts) held → list_all (names put v) new ≡ true
covered_put ds put ts rows v bounded holds at old held new (inl q) all first second = rw q.4
    (covered_push ds q.0 v bounded holds at old held new all first (rw (← q.1, ← q.2) at second))
covered_put ds put ts rows v bounded holds at old held new (inr q) all first second =
    rw q.0 (covered_left ds v (added bounded held ts) holds at old held new all first (rw q.1 at second))

pub rising_put : (ds put : List Dated) (ts : ℕ) (rows : List (List Value)) → Queues ds ts rows put → Rising ds
    → NotAfter ts ds → Rising put
rising_put ds put ts rows (inl q) rising not_later =
    rw q.4 (rises_push (λ (k : Dated). k.ts) ds q.0 rising (rw (← q.1) at not_later))
rising_put ds put ts rows (inr q) rising not_later = rw q.0 rising

pub not_after_put : (ds put : List Dated) (ts : ℕ) (rows : List (List Value)) → Queues ds ts rows put
    → NotAfter ts ds → NotAfter ts put
not_after_put ds put ts rows (inl q) all = rw q.4 (not_after_push ts ds q.0 all (omega (arith, q.1)))
not_after_put ds put ts rows (inr q) all = rw q.0 all

pub rows_put : (ds put : List Dated) (ts : ℕ) (rows : List (List Value)) → Queues ds ts rows put → EachHasRows ds
    → EachHasRows put
rows_put ds put ts rows (inl q) all = rw q.4
    (all_push (λ d. nat_lt 0 (length (packed_rows d.rows))) ds q.0 all (rw q.2 (grind (arith, nat_tests, q.3))))
rows_put ds put ts rows (inr q) all = rw q.0 all

past_tail : (x y : ℕ) (ys : List ℕ) → ArePast x (y ∷ ys) → ArePast x ys
past_tail x y ys past = λ k l. past (suc k) (omega arith)

past_cons : (x y : ℕ) (ys : List ℕ) → y ≤ x → ArePast x ys → ArePast x (y ∷ ys)
past_cons x y ys l past zero m = l
past_cons x y ys l past (suc k) m = past k (omega arith)

past_recent : (hi now x : ℕ) (ys : List ℕ) → ArePast x ys → ArePast x (recent hi now ys)
unfolding recent
past_recent hi now x [] past = past
past_recent hi now x (y ∷ ys) past =
    let rest = past_recent hi now x ys (past_tail x y ys past) in
    either (ArePast x) (nat_le (now - y) hi) (y ∷ recent hi now ys) (recent hi now ys) (recent hi now (y ∷ ys)) refl
    (past_cons x y (recent hi now ys) (past 0 (omega arith)) rest) rest

pub past_thinned : (hi now x : ℕ) (old new : List ℕ) → IsThinned hi now old new → ArePast x old → ArePast x new
past_thinned hi now x old new h past = grind (arith, past_recent)

pub increasing_thinned : (hi x : ℕ) (old new : List ℕ) → IsThinned hi x old new → IsStrictlyIncreasing old
    → IsStrictlyIncreasing new
increasing_thinned hi x old new h k = grind (arith, increasing_recent)

pub placed_thinned : (hi now : ℕ) (old new : List ℕ) → IsThinned hi now old new → old ≡ [] → new ≡ []
placed_thinned hi now old new thin none = grind (arith, recent_none hi now)

pub past_held : (last now : ℕ) (holds : Bool) (old held : List ℕ) → last ≤ now → ArePast last old
    → held ≡ cond holds old [] → ArePast now held
past_held last now holds old held l past e = grind arith

pub past_joined : (now : ℕ) (bounded new : Bool) (held list : List ℕ) → ArePast now held
    → list ≡ cond new (added bounded held now) held → ArePast now list
past_joined now bounded new held list past e = grind (arith, either, past_added)

-- where the queue is fresh, so is each kept time
named_fresh : (hi x : ℕ) (v : List Value) (y : ℕ) (ds : List Dated) → Fresh hi x ds → names ds v y ≡ true
    → nat_le (x - y) hi ≡ true
named_fresh hi x v y [] fresh named = cc
named_fresh hi x v y (d ∷ ds) fresh named = grind (arith, nat_tests, named_fresh hi x v y ds)

pub times_fresh : (hi x : ℕ) (v : List Value) (ds : List Dated) (ys : List ℕ) → Fresh hi x ds
    → list_all (names ds v) ys ≡ true → list_all (λ y. nat_le (x - y) hi) ys ≡ true
times_fresh hi x v ds [] fresh all = refl
times_fresh hi x v ds (y ∷ ys) fresh all = grind (arith, named_fresh, times_fresh hi x v ds ys fresh)

-- so no kept time lies further back than the greatest number
pub bounded_is : (o : Option ℕ) (x : ℕ) (groups : List (List Value × List (List Value × List ℕ)))
    (queue : List Dated) → FindsOldTimes o x groups queue → IfSome o (λ hi. Bounded hi x groups)
bounded_is o x groups queue f = grind (arith, times_fresh)
