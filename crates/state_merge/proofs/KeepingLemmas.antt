-- The rule of what is kept for rows stays where two states are united.
use Rattle.std.proofs.Common.{◌≡◌, ℕ, zero, ◌≤◌, ◌<◌, Bool, true, nat_le, List, [], ◌∷◌, length, Option, None, Some}
use Rattle.std.proofs.Common.{arith}
use Rattle.std.proofs.{lemmas.Bool.and_parts, lemmas.Option.same_Some, lemmas.Grind.common_steps}
use Rattle.std.specs.{List.AllByRecursion, List.list_all, List.Sorted.IsStrictlyIncreasing, Option.IfSome}
use Rattle.mfotl_model.specs.declared.value.Value.{Value}
use Rattle.relations.specs.KeptRows.{kept_for}
use Rattle.relations.proofs.{KeptLemmas.each_kept, MapLemmas.same_row}
use Rattle.eval_since.proofs.DatedLemmas.{past_all}
use Rattle.eval_since.specs.{SinceData.KeepsTimes}
use Rattle.row_times.specs.{Times.ArePast}
use Rattle.until_rows.specs.declared.recalled.Mark.{Mark}
use Rattle.monitor_state.specs.JoinedRows.{RowsUnion, either, least_time, marks_joined, times_joined, times_united}
use Rattle.state_merge.specs.Pairs.{lesser_mark}
use Rattle.state_merge.proofs.PutLemmas.{all_hold, all_some, marks_are, one_time, place_of, time_of, times_are}
use Rattle.state_merge.proofs.PutLemmas.{times_increase}

-- what holds of each row with what is kept for it
abbrev pub AllKept : {X : Type 0} → (List Value → X → Type 0) → List (List Value × X) → Type 0
AllKept Q es = (u : List Value) (x : _) → kept_for es u ≡ Some x → Q u x

-- from each of the pairs to what is found
pub found_each : {X : Type 0} (Q : List Value → X → Type 0) (es : List (List Value × X))
    → AllByRecursion (λ e. Q e.0 e.1) es → AllKept Q es
found_each Q [] all u x is = absurd cc
found_each {X} Q (e ∷ es) all u x is = grind (arith, same_row, same_Some, found_each Q es all.1 u x)

-- what holds of both lists, and of what is made of both, holds of their union
union_keeps : {X : Type 0} (Q : List Value → X → Type 0) (both : X → X → X) (a b c : List (List Value × X))
    → RowsUnion both a b c → AllKept Q a → AllKept Q b → ((u : List Value) (x y : X) → Q u x → Q u y → Q u (both x y))
    → AllKept Q c
union_keeps Q both a b c union qa qb join u z is = grind arith

-- the same row by row
pub each_united : {X : Type 0} (Q : List Value → X → Type 0) (both : X → X → X) (a b c : List (List Value × X))
    → RowsUnion both a b c → AllByRecursion (λ e. Q e.0 e.1) a → AllByRecursion (λ e. Q e.0 e.1) b
    → ((u : List Value) (x y : X) → Q u x → Q u y → Q u (both x y)) → AllByRecursion (λ e. Q e.0 e.1) c
each_united Q both a b c union qa qb join = grind (arith, each_kept, union_keeps, found_each)

-- the same of what look-ups may find
pub if_united : {X : Type 0} (P : X → Type 0) (both : X → X → X) (oa ob : Option X) → IfSome oa P → IfSome ob P
    → ((x y : X) → P x → P y → P (both x y)) → IfSome (either both oa ob) P
if_united P both oa ob pa pb join = grind arith

-- ---- times

past_back : (x : ℕ) (ts : List ℕ) → list_all (λ t. nat_le t x) ts ≡ true → ArePast x ts
past_back x ts all = grind (arith, common_steps, and_parts, zero)

united_all : (p : ℕ → Bool) (xs ys : List ℕ) → list_all p xs ≡ true → list_all p ys ≡ true
    → list_all p (times_united xs ys) ≡ true
united_all p xs ys ax ay = rw (times_are xs ys) (all_hold time_of one_time p (λ x y px py. py) xs ys ax ay)

lesser_past : (last : ℕ) (xs ys : List ℕ) → list_all (λ t. nat_le t last) xs ≡ true
    → list_all (λ t. nat_le t last) ys ≡ true → list_all (λ t. nat_le t last) (least_time xs ys) ≡ true
lesser_past last xs ys ax ay = grind arith

united_some : (xs ys : List ℕ) → 0 < length xs → 0 < length (times_united xs ys)
united_some xs ys some = rw (times_are xs ys) (all_some time_of one_time xs ys some)

least_some : (xs ys : List ℕ) → 0 < length ys → 0 < length (least_time xs ys)
least_some xs ys some = grind arith

least_alone : (xs ys : List ℕ) → length xs ≤ 1 → length ys ≤ 1 → length (least_time xs ys) ≤ 1
least_alone xs ys ax ay = grind arith

least_ascends : (xs ys : List ℕ) → IsStrictlyIncreasing xs → IsStrictlyIncreasing ys
    → IsStrictlyIncreasing (least_time xs ys)
least_ascends xs ys ax ay = grind arith

-- the times of both keep the rule
pub times_keep : (hi : Option ℕ) (last : ℕ) (xs ys : List ℕ) → KeepsTimes hi last xs → KeepsTimes hi last ys
    → KeepsTimes hi last (times_joined hi xs ys)
times_keep None last xs ys kx ky =
    grind (arith, least_some, least_ascends, past_back, lesser_past, past_all, least_alone)
times_keep (Some h) last xs ys kx ky = grind (arith, united_some, times_increase, past_back, united_all, past_all)

-- ---- marks

pub marks_all : (p : Mark → Bool) → ((m n : Mark) → p m ≡ true → p n ≡ true → p (lesser_mark m n) ≡ true)
    → (ms ns : List Mark) → list_all p ms ≡ true → list_all p ns ≡ true → list_all p (marks_joined ms ns) ≡ true
marks_all p lesser ms ns am an = rw (marks_are ms ns) (all_hold place_of lesser_mark p lesser ms ns am an)

pub marks_some : (ms ns : List Mark) → 0 < length ms → 0 < length (marks_joined ms ns)
marks_some ms ns some = rw (marks_are ms ns) (all_some place_of lesser_mark ms ns some)
