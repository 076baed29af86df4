-- What a window keeps, from the rows of plain data, and what the data keeps, from a window.
use Rattle.std.proofs.Common.{◌≡◌, ℕ, ◌-◌, ◌<◌, ◌≤◌, Bool, true, false, cond, nat_le, List, [], ◌∷◌, length, map}
use Rattle.std.proofs.Common.{Option, Some, None, refl, ap, ◌∙◌, arith}
use Rattle.std.specs.{BTreeMap.is_at, List.AllByRecursion, List.list_all, List.Sorted.IsStrictlyIncreasing}
use Rattle.std.specs.{Option.IfSome, Option.is_some}
use Rattle.mfotl_model.specs.Tables.{all_apart, all_sized, part}
use Rattle.mfotl_model.specs.Values.{row_cmp}
use Rattle.mfotl_model.specs.declared.value.Value.{Value}
use Rattle.relations.specs.KeptRows.{RowsAscend, filled, kept_for}
use Rattle.row_times.specs.{Groups.NoneEmpty, Groups.times_at, Times.ArePast}
use Rattle.eval_since.specs.{SinceData.KeepsTimes}
use Rattle.eval_since.specs.Recalled.{is_recalled, put_times}
use Rattle.row_times.specs.KeptTimes.{times_for, times_kept}
use Rattle.eval_since.specs.Windows.{EachHasRows, FindsOldTimes, Keeps, Rising, names}
use Rattle.row_times.specs.declared.{kept_row.KeptRow.KeptRow}
use Rattle.eval_since.specs.declared.{contents.Dated.Dated}
use Rattle.relations.proofs.{MapLemmas.either, TestLemmas.all_weaker}
use Rattle.eval_since.proofs.DatedLemmas.{all_each, names_own, past_all}
use Rattle.eval_since.proofs.{ExpireLemmas.bounded_is}
use Rattle.row_times.proofs.RuleLemmas.{increasing_none}
use Rattle.eval_since.proofs.RecalledLemmas.{each_row, put_is, times_each, times_sized}

-- each row of a window's data keeps what the window keeps
pub window_keeps : (hi : Option ℕ) (right left : List ℕ) (last : ℕ)
    (groups : List (List Value × List (List Value × List ℕ))) (queue : List Dated) (rows : List KeptRow)
    → Keeps hi right left last groups queue → RowsAscend (times_kept rows)
    → ((u : List Value) → kept_for (times_kept rows) u ≡ filled (times_at groups (part right left u) u))
    → AllByRecursion (λ k. KeepsTimes hi last k.times.items) rows
window_keeps hi right left last groups queue rows keeps up found =
    each_row (λ u ts. KeepsTimes hi last ts) rows (λ u. times_at groups (part right left u) u) up found (λ u some.
    record {
      some = some;
      ascend = keeps.ascend (part right left u) u;
      past = keeps.past (part right left u) u;
      bounded = bounded_at u hi (bounded_is hi last groups queue keeps.finds);
      alone = λ none. keeps.alone none (part right left u) u;
    })
  where
    bounded_at : (u : List Value) (o : Option ℕ)
        → IfSome o (λ h. (q v : List Value) → list_all (λ y. nat_le (last - y) h) (times_at groups q v) ≡ true)
        → IfSome o (λ h. list_all (λ y. nat_le (last - y) h) (times_at groups (part right left u) u) ≡ true)
    bounded_at u None all = tt
    bounded_at u (Some h) all = all (part right left u) u

-- what is put into groups is found in the group of its part alone
pub put_at : (right left : List ℕ) (rows : List KeptRow) (groups : List (List Value × List (List Value × List ℕ)))
    → RowsAscend (times_kept rows)
    → ((q v : List Value) → times_at groups q v ≡ put_times right left (times_kept rows) q v [])
    → (q v : List Value) → times_at groups q v ≡ cond (is_at (row_cmp (part right left v)) q) (times_for rows v) []
put_at right left rows groups up put q v = put q v ∙ put_is right left (times_kept rows) up q v []

-- what holds of each row's times, and of none, holds in every group
in_groups : (P : List ℕ → Type 0) (right left : List ℕ) (rows : List KeptRow)
    (groups : List (List Value × List (List Value × List ℕ)))
    → ((q v : List Value) → times_at groups q v ≡ cond (is_at (row_cmp (part right left v)) q) (times_for rows v) [])
    → P [] → ((u : List Value) → P (times_for rows u)) → (q v : List Value) → P (times_at groups q v)
in_groups P right left rows groups is none all q v = grind arith

each_times : (P : List ℕ → Type 0) (hi : Option ℕ) (last : ℕ) (rows : List KeptRow)
    → AllByRecursion (λ k. KeepsTimes hi last k.times.items) rows
    → ((ts : List ℕ) → KeepsTimes hi last ts → P ts) → AllByRecursion (λ k. P k.times.items) rows
each_times P hi last [] all gives = tt
each_times P hi last (k ∷ ks) all gives = (gives k.times.items all.0, each_times P hi last ks all.1 gives)

-- the rows' times ascend
pub each_ascends : (hi : Option ℕ) (last : ℕ) (rows : List KeptRow)
    → AllByRecursion (λ k. KeepsTimes hi last k.times.items) rows
    → AllByRecursion (λ k. IsStrictlyIncreasing k.times.items) rows
each_ascends hi last rows all = each_times IsStrictlyIncreasing hi last rows all (λ ts k. k.ascend)

-- each row has some
pub each_some : (hi : Option ℕ) (last : ℕ) (rows : List KeptRow)
    → AllByRecursion (λ k. KeepsTimes hi last k.times.items) rows → AllByRecursion (λ k. 0 < length k.times.items) rows
each_some hi last rows all = each_times (λ (ts : List ℕ). 0 < length ts) hi last rows all (λ ts k. k.some)

-- without a greatest distance there is nothing to find
pub finds_none : (hi : Option ℕ) (last : ℕ) (groups : List (List Value × List (List Value × List ℕ)))
    (queue : List Dated) → is_some hi ≡ false → FindsOldTimes hi last groups queue
finds_none hi last groups queue none = grind arith

-- the queue of the rows' times finds them
pub finds_rows : (hi : Option ℕ) (right left : List ℕ) (last : ℕ) (rows : List KeptRow)
    (groups : List (List Value × List (List Value × List ℕ))) (queue : List Dated)
    → AllByRecursion (λ k. KeepsTimes hi last k.times.items) rows
    → ((q v : List Value) → times_at groups q v ≡ cond (is_at (row_cmp (part right left v)) q) (times_for rows v) [])
    → ((v : List Value) (y : ℕ) → names queue v y ≡ is_recalled rows v y)
    → ((test : ℕ → Bool) → list_all (λ d. test d.ts) queue ≡ list_all (λ k. list_all test k.times.items) rows)
    → Rising queue → EachHasRows queue → FindsOldTimes hi last groups queue
finds_rows None right left last rows groups queue all is same tests rising each = tt
finds_rows (Some h) right left last rows groups queue all is same tests rising each = (
  λ q v. either (λ ts. list_all (names queue v) ts ≡ true) (is_at (row_cmp (part right left v)) q) (times_for rows v)
      [] (times_at groups q v) (is q v) (all_weaker (is_recalled rows v) (names queue v) (times_for rows v)
      (λ y there. same v y ∙ there) (names_own rows v)) refl,
  rising,
  tests (λ y. nat_le y last) ∙ all_each (λ y. nat_le y last) rows
      (each_times (λ ts. list_all (λ y. nat_le y last) ts ≡ true) (Some h) last rows all
      (λ ts k. past_all last ts k.past)),
  tests (λ y. nat_le (last - y) h) ∙ all_each (λ y. nat_le (last - y) h) rows
      (each_times (λ ts. list_all (λ y. nat_le (last - y) h) ts ≡ true) (Some h) last rows all
      (λ ts k. k.bounded)),
  each,
)

-- what the window keeps
pub keeps_restored : (hi : Option ℕ) (right left : List ℕ) (last : ℕ) (rows : List KeptRow)
    (groups : List (List Value × List (List Value × List ℕ))) (queue : List Dated)
    → all_apart right ≡ true → all_sized (length right) (map (λ k. k.row) rows) ≡ true
    → AllByRecursion (λ k. KeepsTimes hi last k.times.items) rows
    → ((q v : List Value) → times_at groups q v ≡ cond (is_at (row_cmp (part right left v)) q) (times_for rows v) [])
    → NoneEmpty groups → FindsOldTimes hi last groups queue → Keeps hi right left last groups queue
keeps_restored hi right left last rows groups queue apart sized all is some finds = record {
  apart = apart;
  sized = λ q v other. grind (arith, is q v, times_sized (length right) rows v sized other);
  ascend = in_groups IsStrictlyIncreasing right left rows groups is increasing_none
      (times_each IsStrictlyIncreasing rows (each_ascends hi last rows all) increasing_none);
  alone = λ none. in_groups (λ ts. length ts ≤ 1) right left rows groups is (omega arith)
      (times_each (λ ts. length ts ≤ 1) rows (each_times (λ ts. length ts ≤ 1) hi last rows all (λ ts k. k.alone none))
      (omega arith));
  some = some;
  placed = λ q v apart. is q v ∙ ap (λ b. cond b (times_for rows v) []) apart;
  past = in_groups (ArePast last) right left rows groups is (λ k l. absurd (omega arith))
      (times_each (ArePast last) rows (each_times (ArePast last) hi last rows all (λ ts k. k.past))
      (λ k l. absurd (omega arith)));
  finds = finds;
}
