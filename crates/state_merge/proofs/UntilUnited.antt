-- The data of two UNTILs united stands for both regions, has nothing outside them, and keeps its rule.
use Rattle.std.proofs.Common.{◌≡◌, ℕ, ◌<◌, ◌≤◌, Bool, true, ◌||◌, cond, nat_le, List, [], length, map, sym, arith, ap₂}
use Rattle.std.proofs.Common.{◌∙◌}
use Rattle.std.proofs.Math.Bool.{or_self}
use Rattle.std.specs.{List.AllByRecursion, List.list_any, Option.unwrap_or, Prelude.min}
use Rattle.mfotl_model.specs.{Exact.Covers, Exact.View, FreeVariables.fv, Regions.Region, Satisfaction.Valuation}
use Rattle.mfotl_model.specs.declared.{interval.Interval.Interval, value.Value.Value}
use Rattle.core_arranging.specs.{Windows.left_operand}
use Rattle.until_rows.specs.{Recalled.entries_kept, Recalled.starts_kept, Starts.start_of}
use Rattle.eval_until.specs.UntilBefore.{start}
use Rattle.eval_until.specs.{UntilBefore.until_before, UntilData.UntilRule, UntilData.until_of}
use Rattle.until_rows.specs.declared.{entries.Entry.Entry, recalled.Mark.Mark}
use Rattle.monitorable.specs.CoreForms.{CoreForm, meaning}
use Rattle.relations.specs.KeptRows.{kept_for}
use Rattle.monitor_nodes.specs.{Operands.is_negated, Views.Dates, Views.Tells}
use Rattle.monitor_state.specs.{JoinedRows.marks_joined, StateInside.WindowInside, StateLaws.seen_in}
use Rattle.monitor_state.specs.{StateRules.UntilKeeps, StateRules.until_setting, StateTimes.KeptTimes}
use Rattle.monitor_state.specs.{StateTimes.times_from, StateUnions.UntilUnion}
use Rattle.monitor_state.specs.StateStands.{UntilDataStands, mark_meets, marks_for, marks_kept}
use Rattle.monitor_state.specs.declared.state.UntilKept.{UntilKept}
use Rattle.monitor_state.specs.declared.state.WindowData.TheVariants as window
use Rattle.state_merge.proofs.JoinedLemmas.{marks_right, pooled, starts_right}
use Rattle.state_merge.proofs.KeepingLemmas.{each_united, if_united, marks_some}
use Rattle.state_merge.proofs.TablesUnited.{over_union, rows_inside, tables_at, union_length}
use Rattle.state_merge.proofs.UntilRows.{none_joined, places_joined, same_keys, some_entries, some_marks, waits_joined}

module _ (view : View) (r q all : Region) (union : (vs : List ℕ) (v : Valuation) → all vs v ≡ (r vs v || q vs v))
    (k : KeptTimes) (p : ℕ) (i : Interval) (f g : CoreForm) (a b c : UntilKept)
    (ka : UntilKeeps k i f g a) (sa : UntilDataStands (seen_in view r) p i f g a.kept)
    (ia : WindowInside r (window.Until a)) (kb : UntilKeeps k i f g b)
    (sb : UntilDataStands (seen_in view q) p i f g b.kept) (ib : WindowInside q (window.Until b))
    (u : UntilUnion a b c) where
  abbrev lows : List ℕ
  lows = fv (meaning (left_operand f))

  abbrev columns : List ℕ
  columns = fv (meaning g)

  abbrev pulled : ℕ
  pulled = a.kept.pulled

  abbrev taken : ℕ
  taken = a.kept.taken

  abbrev next : List ℕ
  next = times_from k pulled

  abbrev starts_of : UntilKept → List (List Value × ℕ)
  starts_of s = starts_kept s.kept.starts.items

  abbrev marks_of : UntilKept → List (List Value × List Mark)
  marks_of s = marks_kept s.kept.rows.items

  same : b.kept.pulled ≡ pulled
  same = sb.pulled ∙ sym sa.pulled

  same_taken : b.kept.taken ≡ taken
  same_taken = sb.taken ∙ sym sa.taken

  -- ---- the rule

  filled : AllByRecursion (λ (r : List Value × List Entry). 0 < length r.1) (entries_kept pulled next c.kept.rows.items)
  filled =
      some_entries pulled next c.kept.rows.items
      (each_united (λ w ms. 0 < length ms) marks_joined (marks_of a) (marks_of b) (marks_of c) u.rows
      (some_marks pulled next a.kept.rows.items ka.rule.some)
      (some_marks pulled next b.kept.rows.items (rw same at kb.rule.some)) (λ w ms ns x y. marks_some ms ns x))

  rule : UntilRule (until_of (until_setting i f g) (times_from k c.kept.pulled) c.kept)
  rule =
      record {
        low = rw (u.pulled, u.taken) ka.rule.low;
        high = rw (u.pulled, u.taken) ka.rule.high;
        few = rw u.pulled ka.rule.few;
        lefts = over_union _ _ _ _ ka.rule.lefts u.lefts;
        rights = over_union _ _ _ _ ka.rule.rights u.rights;
        starts = u.starts.ascend;
        wide = each_united (λ w s. length w ≡ length lows) min (starts_of a) (starts_of b) (starts_of c) u.starts
            ka.rule.wide kb.rule.wide (λ w s t x y. x);
        rows = rw (u.pulled, same_keys pulled next c.kept.rows.items) u.rows.ascend;
        sized = rw u.pulled (λ w other. none_joined pulled next _ _ _ u.rows w (ka.rule.sized w other)
            ((rw same at kb.rule.sized) w other));
        some = rw u.pulled filled;
        waiting = rw (u.pulled, u.taken) (λ w. waits_joined pulled next _ _ _ u.rows w taken (ka.rule.waiting w)
            ((rw (same, same_taken) at kb.rule.waiting) w));
        ascend = rw u.pulled (λ w. places_joined pulled next _ _ _ u.rows w (ka.rule.ascend w)
            ((rw same at kb.rule.ascend) w));
        below = rw u.taken (λ w. rw (u.starts.each w) (if_united (λ s. s ≤ taken) min
            (kept_for (starts_of a) w) (kept_for (starts_of b) w) (ka.rule.below w)
            ((rw same_taken at kb.rule.below) w) (λ x y l m. omega arith)));
        above = λ e. rw u.pulled (λ w. rw (u.starts.each w) (if_united (λ s. pulled < s) min
            (kept_for (starts_of a) w) (kept_for (starts_of b) w) (ka.rule.above e w)
            ((rw same at (kb.rule.above e)) w) (λ x y l m. omega arith)));
      }

  -- ---- what it stands for

  runs_right : (dom : List Value) (v : Valuation) → Covers view dom → all lows v ≡ true → (la : List Bool)
      → Tells view dom v f la → (j : ℕ) → c.kept.pulled ≤ j
      → nat_le (start_of (is_negated f) c.kept.taken (starts_of c) (map v lows)) j ≡ nat_le (start la c.kept.taken) j
  runs_right dom v covers n la ta j low =
      let w = map v lows in
      let early = rw u.pulled at low in
      rw (u.taken, u.starts.each w)
      (pooled min (λ o. nat_le (unwrap_or o (cond (is_negated f) 0 taken)) j) (r lows v) (q lows v)
      (nat_le (start la taken) j) (kept_for (starts_of a) w) (kept_for (starts_of b) w)
      (λ x y ea eb rx ry. starts_right x y j (nat_le (start la taken) j) rx ry)
      (λ near. sa.runs dom v covers near la ta j early) ((rw ka.left at ia.2) v)
      (λ near. (rw (same, same_taken) at (sb.runs dom v covers near la ta j)) early) ((rw kb.left at ib.2) v)
      (sym (union lows v) ∙ n))

  window_right : (dom : List Value) (v : Valuation) → Covers view dom → all columns v ≡ true → (t : List ℕ)
      (la lb : List Bool) → Dates view t → length view.log ≤ length t → Tells view dom v f la → Tells view dom v g lb
      → (j : ℕ) → c.kept.pulled ≤ j → list_any (mark_meets i t j) (marks_for c.kept.rows.items (map v columns))
      ≡ until_before i t la lb c.kept.taken j
  window_right dom v covers n t la lb dates long ta tb j low =
      let w = map v columns in
      let truth = until_before i t la lb taken j in
      let early = rw u.pulled at low in
      rw (u.taken, u.rows.each w)
      (pooled marks_joined (λ o. list_any (mark_meets i t j) (unwrap_or o [])) (r columns v) (q columns v) truth
      (kept_for (marks_of a) w) (kept_for (marks_of b) w)
      (λ xs ys ea eb rx ry. marks_right i t j xs ys ∙ ap₂ (λ s t. s || t) rx ry ∙ or_self truth)
      (λ near. sa.window dom v covers near t la lb dates long ta tb j early) ((rw ka.right at ia.3) v)
      (λ near. (rw (same, same_taken) at (sb.window dom v covers near t la lb dates long ta tb j)) early)
      ((rw kb.right at ib.3) v) (sym (union columns v) ∙ n))

  pub until_united : UntilKeeps k i f g c × UntilDataStands (seen_in view all) p i f g c.kept
      × WindowInside all (window.Until c)
  until_united =
      let lefts = tables_at view r q all union _ _ _ _ _ _ _ same_taken u.taken sa.lefts ia.0 sb.lefts ib.0 u.lefts in
      let rights = tables_at view r q all union _ _ _ _ _ _ _ same_taken u.taken sa.rights ia.1 sb.rights ib.1
      u.rights in (
        record { left = u.left ∙ ka.left; right = u.right ∙ ka.right; rule = rule },
        record {
          pulled = u.pulled ∙ sa.pulled;
          taken = u.taken ∙ sa.taken;
          left_pushed = rw (u.taken, union_length _ _ _ u.lefts) sa.left_pushed;
          right_pushed = rw (u.taken, union_length _ _ _ u.rights) sa.right_pushed;
          lefts = lefts.0;
          rights = rights.0;
          runs = runs_right;
          window = window_right;
        },
        (
          lefts.1,
          rights.1,
          rw (u.left, ka.left) (rows_inside view r q all union min lows (starts_of a) (starts_of b) (starts_of c)
              (rw ka.left at ia.2) (rw kb.left at ib.2) u.starts),
          rw (u.right, ka.right) (rows_inside view r q all union marks_joined columns (marks_of a) (marks_of b)
              (marks_of c) (rw ka.right at ia.3) (rw kb.right at ib.3) u.rows),
        ),
      )
