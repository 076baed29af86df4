-- The data of an UNTIL cut to a region: it keeps its rule, stands for the region, and has nothing outside it.
use Rattle.std.proofs.Common.{◌≡◌, ℕ, ◌≤◌, ◌<◌, Bool, true, nat_le, nat_lt, ◌&&◌, List, [], ◌∷◌, length, map, Option}
use Rattle.std.proofs.Common.{None, refl, sym, ap, ◌∙◌, arith}
use Rattle.std.specs.{List.list_all, List.list_any, Option.IfSome, Option.unwrap_or}
use Rattle.mfotl_model.specs.{Exact.Covers, Exact.View, FreeVariables.fv, Regions.Passes, Satisfaction.Valuation}
use Rattle.mfotl_model.specs.declared.{interval.Interval.Interval, value.Value.Value}
use Rattle.core_arranging.specs.{Windows.left_operand}
use Rattle.until_rows.specs.Recalled.{entries_kept, entry_at, starts_kept}
use Rattle.until_rows.specs.{Rules.PlacesAscend, Starts.start_of}
use Rattle.eval_until.specs.UntilBefore.{start, until_before}
use Rattle.eval_until.specs.UntilData.{UntilRule, until_of}
use Rattle.until_rows.specs.declared.{entries.Entry.Entry, recalled.KeptMarks.KeptMarks, recalled.Mark.Mark}
use Rattle.monitorable.specs.CoreForms.{CoreForm, meaning}
use Rattle.relations.specs.KeptRows.{kept_for}
use Rattle.monitor_nodes.specs.{Operands.is_negated, Views.Dates, Views.Tells}
use Rattle.monitor_state.specs.{StateInside.WindowInside, StateRules.UntilKeeps, StateRules.until_setting}
use Rattle.monitor_state.specs.{StateTimes.KeptTimes, StateTimes.times_from}
use Rattle.monitor_state.specs.StateCuts.{UntilCut, cut_rows, lies}
use Rattle.monitor_state.specs.StateStands.{UntilDataStands, mark_meets, marks_for, marks_kept}
use Rattle.monitor_state.specs.declared.state.UntilKept.{UntilKept}
use Rattle.monitor_state.specs.declared.state.WindowData.TheVariants as window
use Rattle.state_split.proofs.RowCuts.{all_filtered, ascend_filtered, changed, filter_mapped, found_cut, none_outside}
use Rattle.state_split.proofs.RowCuts.{rows_near}
use Rattle.state_split.proofs.TableCuts.{over_cut, pushed_cut, tables_exact, tables_inside}

-- the entries of rows are made of their marks
pub entries_of_marks : (p : ℕ) (next : List ℕ) (rows : List KeptMarks)
    → entries_kept p next rows ≡ map (changed (map (entry_at p next))) (marks_kept rows)
entries_of_marks p next [] = refl
entries_of_marks p next (k ∷ ks) = cc (entries_of_marks p next ks)

module _ (view : View) (free : List ℕ) (passes : Passes free view.near) (k : KeptTimes) (i : Interval)
    (f g : CoreForm) (old new : UntilKept) (cut : UntilCut view.near old new) (keeps : UntilKeeps k i f g old)
    (p : ℕ) (stands : UntilDataStands view p i f g old.kept) where
  abbrev left : List ℕ
  left = fv (meaning (left_operand f))

  abbrev right : List ℕ
  right = fv (meaning g)

  abbrev was : ℕ
  was = old.kept.pulled

  abbrev now : ℕ
  now = new.kept.pulled

  abbrev old_starts : List (List Value × ℕ)
  old_starts = starts_kept old.kept.starts.items

  abbrev old_marks : List (List Value × List Mark)
  old_marks = marks_kept old.kept.rows.items

  abbrev old_entries : List (List Value × List Entry)
  old_entries = entries_kept was (times_from k was) old.kept.rows.items

  starts : starts_kept new.kept.starts.items ≡ cut_rows view.near left old_starts
  starts = rw keeps.left at cut.starts

  marks : marks_kept new.kept.rows.items ≡ cut_rows view.near right old_marks
  marks = rw keeps.right at cut.rows

  entries : entries_kept was (times_from k was) new.kept.rows.items ≡ cut_rows view.near right old_entries
  entries =
      entries_of_marks was (times_from k was) new.kept.rows.items
      ∙ ap (map (changed (map (entry_at was (times_from k was))))) marks
      ∙ filter_mapped (lies view.near right) (map (entry_at was (times_from k was))) old_marks
      ∙ ap (cut_rows view.near right) (sym (entries_of_marks was (times_from k was) old.kept.rows.items))

  -- what holds of nothing and of all that was found holds of what is found
  start_found : (P : Option ℕ → Type 0) (w : List Value) → P None → P (kept_for old_starts w)
      → P (kept_for (starts_kept new.kept.starts.items) w)
  start_found P w none some = rw starts (found_cut view.near left old_starts P w none some)

  entry_found : (P : Option (List Entry) → Type 0) (u : List Value) → P None → P (kept_for old_entries u)
      → P (kept_for (entries_kept was (times_from k was) new.kept.rows.items) u)
  entry_found P u none some = rw entries (found_cut view.near right old_entries P u none some)

  runs_right : (dom : List Value) (v : Valuation) → Covers view dom → view.near left v ≡ true → (a : List Bool)
      → Tells view dom v f a → (j : ℕ) → now ≤ j
      → nat_le (start_of (is_negated f) new.kept.taken (starts_kept new.kept.starts.items) (map v left)) j
      ≡ nat_le (start a new.kept.taken) j
  runs_right dom v covers n a ta j low =
      rw (cut.taken, starts, rows_near free view.near passes left old_starts v n)
      (stands.runs dom v covers n a ta j (rw cut.pulled at low))

  window_right : (dom : List Value) (v : Valuation) → Covers view dom → view.near right v ≡ true → (t : List ℕ)
      (a b : List Bool) → Dates view t → length view.log ≤ length t → Tells view dom v f a → Tells view dom v g b
      → (j : ℕ) → now ≤ j → list_any (mark_meets i t j) (marks_for new.kept.rows.items (map v right))
      ≡ until_before i t a b new.kept.taken j
  window_right dom v covers n t a b dates long ta tb j low =
      rw (cut.taken, marks, rows_near free view.near passes right old_marks v n)
      (stands.window dom v covers n t a b dates long ta tb j (rw cut.pulled at low))

  rule : UntilRule (until_of (until_setting i f g) (times_from k now) new.kept)
  rule =
      record {
        low = rw (cut.pulled, cut.taken) keeps.rule.low;
        high = rw (cut.pulled, cut.taken) keeps.rule.high;
        few = rw cut.pulled keeps.rule.few;
        lefts = over_cut view.near _ _ _ cut.lefts keeps.rule.lefts;
        rights = over_cut view.near _ _ _ cut.rights keeps.rule.rights;
        starts = rw starts (ascend_filtered (lies view.near left) old_starts keeps.rule.starts);
        wide = search (starts, all_filtered);
        rows = rw (cut.pulled, entries) (ascend_filtered (lies view.near right) old_entries keeps.rule.rows);
        sized = rw cut.pulled (λ u other. entry_found (λ o. unwrap_or o [] ≡ []) u refl (keeps.rule.sized u other));
        some = grind (arith, entries, all_filtered);
        waiting = rw (cut.pulled, cut.taken) (λ u. entry_found (λ o. list_all (λ (e : Entry). nat_le was e.place
            && nat_lt e.place old.kept.taken && nat_le e.start e.place) (unwrap_or o []) ≡ true) u refl
            (keeps.rule.waiting u));
        ascend = rw cut.pulled (λ u. entry_found (λ o. PlacesAscend (unwrap_or o [])) u tt (keeps.rule.ascend u));
        below = rw cut.taken (λ w. start_found (λ o. IfSome o (λ s. s ≤ old.kept.taken)) w tt (keeps.rule.below w));
        above = λ negated.
            rw cut.pulled (λ w. start_found (λ o. IfSome o (λ s. was < s)) w tt (keeps.rule.above negated w));
      }

  pub until_cut : UntilKeeps k i f g new × UntilDataStands view p i f g new.kept
      × WindowInside view.near (window.Until new)
  until_cut = (
    record { left = cut.left ∙ keeps.left; right = cut.right ∙ keeps.right; rule = rule },
    record {
      pulled = cut.pulled ∙ stands.pulled;
      taken = cut.taken ∙ stands.taken;
      left_pushed = pushed_cut view.near _ _ _ _ _ cut.taken cut.lefts stands.left_pushed;
      right_pushed = pushed_cut view.near _ _ _ _ _ cut.taken cut.rights stands.right_pushed;
      lefts = tables_exact view free passes _ _ _ _ _ cut.taken cut.lefts stands.lefts;
      rights = tables_exact view free passes _ _ _ _ _ cut.taken cut.rights stands.rights;
      runs = runs_right;
      window = window_right;
    },
    (
      tables_inside view free passes _ _ cut.lefts,
      tables_inside view free passes _ _ cut.rights,
      rw (cut.left, cut.starts) (none_outside free view.near passes old.left.items old_starts),
      rw (cut.right, cut.rows) (none_outside free view.near passes old.right.items old_marks),
    ),
  )
