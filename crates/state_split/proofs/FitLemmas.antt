-- Where a state keeps its rule, its rows have a value for each of their columns.
use Rattle.std.proofs.Common.{◌≡◌, ℕ, ◌<◌, Bool, true, false, nat_eq, List, [], ◌∷◌, length, map, refl, ap, arith}
use Rattle.std.proofs.lemmas.Bool.{and_parts}
use Rattle.std.specs.List.{AllByRecursion}
use Rattle.mfotl_model.proofs.LogicLemmas.{same_number}
use Rattle.mfotl_model.specs.{FreeVariables.fv, Tables.all_sized}
use Rattle.mfotl_model.specs.declared.value.Value.{Value}
use Rattle.core_arranging.specs.{Windows.left_operand}
use Rattle.row_times.specs.KeptTimes.{times_kept}
use Rattle.row_times.specs.declared.kept_row.KeptRow.{KeptRow}
use Rattle.eval_until.specs.Keeping.{Sized}
use Rattle.until_rows.specs.{Recalled.entries_kept, Recalled.starts_kept}
use Rattle.until_rows.specs.declared.{entries.Entry.Entry, recalled.KeptMarks.KeptMarks}
use Rattle.monitorable.specs.CoreForms.{CoreForm, meaning, And, Since, Until}
use Rattle.relations.proofs.KeptLemmas.{each_kept, found_kept}
use Rattle.relations.specs.KeptRows.{RowsAscend}
use Rattle.monitor_state.specs.{StateStands.marks_kept, StateTimes.KeptTimes, StateTimes.times_from}
use Rattle.monitor_state.specs.StateRules.{NodeKeeps, NodesKeep, WindowKeeps}
use Rattle.monitor_state.specs.declared.{state.NodeData.NodeData, state.WindowData.WindowData}
use Rattle.monitor_state.specs.declared.state.NodeData.TheVariants as kept
use Rattle.monitor_state.specs.declared.state.WindowData.TheVariants as window
use Rattle.state_split.proofs.{RowCuts.all_unmapped, RowCuts.changed, UntilCuts.entries_of_marks}
use Rattle.state_split.specs.Fits.{NodeFits, NodesFit, RowsFit, WindowFits}

times_fit : (columns : List ℕ) (rows : List KeptRow) → all_sized (length columns) (map (λ k. k.row) rows) ≡ true
    → RowsFit columns (times_kept rows)
times_fit columns [] all = tt
times_fit columns (k ∷ ks) all =
    let parts = and_parts (nat_eq (length k.row) (length columns))
    (all_sized (length columns) (map (λ k. k.row) ks)) all in
    (parts.0, times_fit columns ks parts.1)

starts_fit : (columns : List ℕ) (rows : List (List Value × ℕ)) → AllByRecursion (λ r. length r.0 ≡ length columns) rows
    → RowsFit columns rows
starts_fit columns [] all = tt
starts_fit columns (r ∷ rs) all = grind (arith, same_number, starts_fit columns rs all.1)

-- rows with entries that are sized by what is looked up
entries_fit : (columns : List ℕ) (rows : List (List Value × List Entry)) → RowsAscend rows → Sized (length columns) rows
    → AllByRecursion (λ r. 0 < length r.1) rows → RowsFit columns rows
entries_fit columns rows up sized some =
    each_kept (λ u x. nat_eq (length u) (length columns) ≡ true) rows up
    (λ u x is. by u x (rw is at (found_kept (λ y. 0 < length y) rows some u)) (nat_eq (length u) (length columns)) refl
    (λ other. rw is at (sized u other)))
  where
    by : (u : List Value) (x : List Entry) → 0 < length x → (b : Bool) → nat_eq (length u) (length columns) ≡ b
        → (nat_eq (length u) (length columns) ≡ false → x ≡ []) → b ≡ true
    by u x filled true e none = refl
    by u x filled false e none = absurd (omega (arith, ap length (none e)))

marks_fit : (columns : List ℕ) (p : ℕ) (next : List ℕ) (rows : List KeptMarks)
    → RowsFit columns (entries_kept p next rows) → RowsFit columns (marks_kept rows)
marks_fit columns p next rows fit = grind (arith, all_unmapped, changed, entries_of_marks)

module _ (k : KeptTimes) where
  window_fits : (f : CoreForm) (w : WindowData) → WindowKeeps k f w → WindowFits w
  window_fits (Since i f g) (window.Since s) keeps = grind (arith, times_fit)
  window_fits (Until i f g) (window.Until s) keeps =
      let next = times_from k s.kept.pulled in (
        rw keeps.left (starts_fit (fv (meaning (left_operand f))) (starts_kept s.kept.starts.items) keeps.rule.wide),
        rw keeps.right (marks_fit (fv (meaning g)) s.kept.pulled next s.kept.rows.items
            (entries_fit (fv (meaning g)) (entries_kept s.kept.pulled next s.kept.rows.items) keeps.rule.rows
            keeps.rule.sized keeps.rule.some)),
      )
  window_fits f w keeps = absurd assumption

  node_fits : (f : CoreForm) (n : NodeData) → NodeKeeps k f n → NodeFits n
  node_fits (And f g) (kept.Filter ts w) keeps = window_fits (left_operand g) w keeps.2
  node_fits (Since i f g) (kept.Window w) keeps = window_fits (Since i f g) w keeps
  node_fits (Until i f g) (kept.Window w) keeps = window_fits (Until i f g) w keeps
  node_fits f (kept.Filter ts w) keeps = absurd keeps
  node_fits f (kept.Window w) keeps = absurd keeps
  node_fits f n keeps = tt

  pub nodes_fit : (fs : List CoreForm) (ns : List NodeData) → NodesKeep k fs ns → NodesFit ns
  nodes_fit [] [] keeps = tt
  nodes_fit (f ∷ fs) (n ∷ ns) keeps = (node_fits f n keeps.0, nodes_fit fs ns keeps.1)
  nodes_fit fs ns keeps = absurd keeps
