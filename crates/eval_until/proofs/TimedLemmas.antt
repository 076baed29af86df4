-- Entries with the times of their positions: of which there is one more, and of which the first goes.
use Rattle.std.proofs.Common.{◌≡◌, ℕ, suc, ◌+◌, ◌-◌, ◌<◌, ◌≤◌, Bool, true, false, cond, nat_eq, nat_le, nat_lt, ◌&&◌, not}
use Rattle.std.proofs.Common.{List, [], ◌∷◌, ◌++◌, Some, length, map, get_or, slice_index, refl, ap, ◌∙◌, arith}
use Rattle.std.proofs.lemmas.Bool.Decides.{nat_tests}
use Rattle.std.proofs.lemmas.List.{get_or_append_left, length_push}
use Rattle.std.specs.{BTreeMap.is_at, Option.unwrap_or}
use Rattle.std.specs.List.{list_all}
use Rattle.mfotl_model.specs.Values.{row_cmp}
use Rattle.mfotl_model.specs.declared.value.Value.{Value}
use Rattle.relations.specs.KeptRows.{kept_for, list_for}
use Rattle.relations.proofs.{TestLemmas.all_push, TestLemmas.all_weaker}
use Rattle.until_rows.specs.{Recalled.entries_kept, Recalled.entry_at, Timed.has_time, Timed.is_timed}
use Rattle.until_rows.specs.declared.{entries.Entry.Entry, recalled.KeptMarks.KeptMarks, recalled.Mark.Mark}
use Rattle.eval_until.specs.{AheadView.AheadOf, UntilView.UntilOf, UntilView.took_all}
use Rattle.eval_until.specs.Rules.{EachPasses, Timed, Waiting}
use Rattle.eval_until.proofs.{FollowsLemmas.read_at, TakingLemmas.time_there}

-- an entry more, of a row that the table has
pub passes_taken : (p : Entry → Bool) (b : Bool) (old new : List Entry) (e : Entry) → new ≡ cond b (old ++ e ∷ []) old
    → list_all p old ≡ true → p e ≡ true → list_all p new ≡ true
passes_taken p true old new e is all last = ap (list_all p) is ∙ all_push p old e all last
passes_taken p false old new e is all last = ap (list_all p) is ∙ all

-- the time that is read at the place of a position
time_is : (times : List ℕ) (k x : ℕ) → k < length times → x ≡ get_or times k x
    → (nat_lt k (length times) && nat_eq (slice_index times k) x) ≡ true
time_is times k x l e = grind (arith, nat_tests, read_at times k x l e)

-- an entry more, with the time that is read for its position
pub timed_taken : (s : UntilOf) (n : AheadOf) (ts : ℕ) → not (took_all s) ≡ true → s.ahead.pulled ≤ s.ahead.taken
    → ((test : ℕ → ℕ → Bool) → EachPasses test s.ahead.rows → test s.ahead.taken ts ≡ true → EachPasses test n.rows)
    → n.pulled ≡ s.ahead.pulled → ts ≡ get_or s.times (s.ahead.taken - s.ahead.pulled) ts
    → Timed s.ahead.pulled s.times s.ahead.rows → Timed n.pulled s.times n.rows
timed_taken s n ts more low passes same read timed =
    let place = s.ahead.taken - s.ahead.pulled in
    rw same (passes
    (λ p x. nat_lt (p - s.ahead.pulled) (length s.times) && nat_eq (slice_index s.times (p - s.ahead.pulled)) x) timed
    (time_is s.times place ts (time_there s more low) read))

-- one time more
pub timed_push : (pulled ts : ℕ) (times : List ℕ) (rows : List (List Value × List Entry)) → Timed pulled times rows
    → Timed pulled (times ++ ts ∷ []) rows
timed_push pulled ts times rows timed u =
    all_weaker (is_timed pulled times) (is_timed pulled (times ++ ts ∷ [])) (list_for rows u)
    (λ e is. grind (arith, nat_tests, length_push, get_or_append_left)) (timed u)

-- the first time goes, and with it the entries of its position
timed_rest : (pulled x taken : ℕ) (times : List ℕ) (es : List Entry)
    → list_all (λ e. nat_le (pulled + 1) e.place && nat_lt e.place taken && nat_le e.start e.place) es ≡ true
    → list_all (is_timed pulled (x ∷ times)) es ≡ true → list_all (is_timed (pulled + 1) times) es ≡ true
timed_rest pulled x taken times [] waiting timed = refl
timed_rest pulled x taken times (e ∷ es) waiting timed =
    grind (arith, nat_tests, timed_rest pulled x taken times es, later e)
  where
    later : (e : Entry) → pulled + 1 ≤ e.place → e.place - pulled ≡ suc (e.place - (pulled + 1))
    later e l = omega arith

pub timed_pulled : (pulled x taken : ℕ) (times : List ℕ) (rows : List (List Value × List Entry))
    → Waiting (pulled + 1) taken rows → Timed pulled (x ∷ times) rows → Timed (pulled + 1) times rows
timed_pulled pulled x taken times rows waiting timed u =
    timed_rest pulled x taken times (list_for rows u) (waiting u) (timed u)

-- where the positions taken have times, each entry's position has one
pub have_times : (pulled taken : ℕ) (times : List ℕ) (es : List Entry) → taken ≤ pulled + length times
    → list_all (λ e. nat_le pulled e.place && nat_lt e.place taken && nat_le e.start e.place) es ≡ true
    → list_all (has_time pulled times) es ≡ true
have_times pulled taken times es high = all_weaker _ _ es (λ e waits. grind (arith, nat_tests))

-- the entry of a mark has its position's
marks_timed : (pulled : ℕ) (times : List ℕ) (marks : List Mark)
    → list_all (has_time pulled times) (map (entry_at pulled times) marks) ≡ true
    → list_all (is_timed pulled times) (map (entry_at pulled times) marks) ≡ true
marks_timed pulled times [] have = refl
marks_timed pulled times (m ∷ ms) have = grind (arith, nat_tests, marks_timed pulled times ms)

kept_timed : (pulled : ℕ) (times : List ℕ) (rows : List KeptMarks) (u : List Value)
    → list_all (has_time pulled times) (list_for (entries_kept pulled times rows) u) ≡ true
    → list_all (is_timed pulled times) (list_for (entries_kept pulled times rows) u) ≡ true
kept_timed pulled times [] u have = refl
kept_timed pulled times (k ∷ ks) u have = by (is_at (row_cmp u) k.row) (kept_timed pulled times ks u) have
  where
    rest : Bool → List Entry
    rest b = unwrap_or (cond b (Some (map (entry_at pulled times) k.marks.items))
        (kept_for (entries_kept pulled times ks) u)) []

    by : (b : Bool) → (list_all (has_time pulled times) (rest false) ≡ true
        → list_all (is_timed pulled times) (rest false) ≡ true)
        → list_all (has_time pulled times) (rest b) ≡ true → list_all (is_timed pulled times) (rest b) ≡ true
    by true others = marks_timed pulled times k.marks.items
    by false others = others

pub timed_kept : (pulled taken : ℕ) (times : List ℕ) (rows : List KeptMarks) → taken ≤ pulled + length times
    → Waiting pulled taken (entries_kept pulled times rows) → Timed pulled times (entries_kept pulled times rows)
timed_kept pulled taken times rows high waiting u = kept_timed pulled times rows u
    (have_times pulled taken times (list_for (entries_kept pulled times rows) u) high (waiting u))
