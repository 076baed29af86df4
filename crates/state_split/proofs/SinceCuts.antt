-- The data of a SINCE cut to a region: it keeps its rule, stands for the region, and has nothing outside it.
use Rattle.std.proofs.Common.{◌≡◌, ℕ, ◌-◌, ◌≤◌, ◌<◌, Bool, true, nat_eq, List, [], ◌∷◌, length, map, refl, ap, ◌∙◌}
use Rattle.std.specs.{List.AllByRecursion, Map.keys_of}
use Rattle.mfotl_model.specs.{Exact.Covers, Exact.View, FreeVariables.fv, Regions.Passes, Satisfaction.Valuation}
use Rattle.mfotl_model.specs.{Satisfaction.time_at, Tables.all_sized}
use Rattle.mfotl_model.specs.declared.{interval.Interval.Interval, value.Value.Value}
use Rattle.row_times.specs.{KeptTimes.times_for, KeptTimes.times_kept}
use Rattle.eval_since.specs.{SinceBefore.since_before, SinceData.KeepsTimes}
use Rattle.row_times.specs.{Times.reaches}
use Rattle.row_times.specs.declared.kept_row.KeptRow.{KeptRow}
use Rattle.monitorable.specs.CoreForms.{CoreForm, meaning}
use Rattle.monitor_state.specs.StateCuts.{SinceCut, cut_rows, lies}
use Rattle.monitor_nodes.specs.{Views.Dates, Views.Tells}
use Rattle.monitor_state.specs.{StateInside.WindowInside, StateRules.SinceKeeps, StateStands.SinceDataStands}
use Rattle.monitor_state.specs.{StateTimes.KeptTimes, StateTimes.time_before}
use Rattle.monitor_state.specs.declared.state.SinceKept.{SinceKept}
use Rattle.monitor_state.specs.declared.state.WindowData.TheVariants as window
use Rattle.state_split.proofs.RowCuts.{all_filtered, all_mapped, all_unmapped, ascend_filtered, keys_filtered}
use Rattle.state_split.proofs.RowCuts.{none_mapped, none_outside, rows_near, tests_filtered}
use Rattle.state_split.proofs.TableCuts.{over_cut, pushed_cut, tables_exact, tables_inside}

-- a row with its times, as a pair
abbrev pair : KeptRow → List Value × List ℕ
pair k = (k.row, k.times.items)

pub rows_are_keys : (rows : List KeptRow) → map (λ k. k.row) rows ≡ keys_of (times_kept rows)
rows_are_keys [] = refl
rows_are_keys (k ∷ ks) = ap (λ rows. k.row ∷ rows) (rows_are_keys ks)

module _ (view : View) (free : List ℕ) (passes : Passes free view.near) (k : KeptTimes) (i : Interval)
    (f g : CoreForm) (old new : SinceKept) (cut : SinceCut view.near old new) (keeps : SinceKeeps k i f g old)
    (p : ℕ) (stands : SinceDataStands view p i f g old.kept) where
  abbrev columns : List ℕ
  columns = fv (meaning g)

  abbrev near_row : List Value → Bool
  near_row = lies view.near columns

  abbrev were : List (List Value × List ℕ)
  were = times_kept old.kept.rows.items

  rows : times_kept new.kept.rows.items ≡ cut_rows view.near columns were
  rows = rw keeps.columns at cut.rows

  sized : all_sized (length columns) (map (λ k. k.row) new.kept.rows.items) ≡ true
  sized =
      rw (rows_are_keys new.kept.rows.items, rows, keys_filtered near_row were)
      (tests_filtered (λ row. nat_eq (length row) (length columns)) near_row (keys_of were)
      (rw (← rows_are_keys old.kept.rows.items) keeps.rule.sized))

  each : AllByRecursion (λ (e : KeptRow). KeepsTimes i.hi (time_before k old.kept.pulled) e.times.items)
      new.kept.rows.items
  each =
      let P : List Value × List ℕ → Type 0 = λ e. KeepsTimes i.hi (time_before k old.kept.pulled) e.1 in
      all_unmapped P pair new.kept.rows.items
      (rw rows (all_filtered P (λ e. near_row e.0) were (all_mapped P pair old.kept.rows.items keeps.rule.each)))

  window_right : (dom : List Value) (v : Valuation) → Covers view dom → view.near columns v ≡ true → (t : List ℕ)
      (a b : List Bool) → Dates view t → Tells view dom v f a → Tells view dom v g b → (x : ℕ)
      → (0 < new.kept.pulled → time_at t (new.kept.pulled - 1) ≤ x)
      → reaches i (times_for new.kept.rows.items (map v columns)) x ≡ since_before i t a b new.kept.pulled x
  window_right dom v covers n t a b dates ta tb x late =
      rw (cut.pulled, rows, rows_near free view.near passes columns were v n)
      (stands.window dom v covers n t a b dates ta tb x (rw cut.pulled at late))

  pub since_cut : SinceKeeps k i f g new × SinceDataStands view p i f g new.kept
      × WindowInside view.near (window.Since new)
  since_cut = (
    record {
      interval = cut.interval ∙ keeps.interval;
      columns = cut.columns ∙ keeps.columns;
      rule = rw cut.pulled (record {
        few = keeps.rule.few;
        climbs = keeps.rule.climbs;
        lefts = over_cut view.near _ _ _ cut.lefts keeps.rule.lefts;
        rights = over_cut view.near _ _ _ cut.rights keeps.rule.rights;
        rows = rw rows (ascend_filtered near_row were keeps.rule.rows);
        sized = sized;
        each = each;
        begins = λ none. none_mapped pair new.kept.rows.items
            (rows ∙ ap (λ rs. cut_rows view.near columns (times_kept rs)) (keeps.rule.begins none));
      });
    },
    record {
      pulled = cut.pulled ∙ stands.pulled;
      left_pushed = pushed_cut view.near _ _ _ _ _ cut.pulled cut.lefts stands.left_pushed;
      right_pushed = pushed_cut view.near _ _ _ _ _ cut.pulled cut.rights stands.right_pushed;
      lefts = tables_exact view free passes _ _ _ _ _ cut.pulled cut.lefts stands.lefts;
      rights = tables_exact view free passes _ _ _ _ _ cut.pulled cut.rights stands.rights;
      window = window_right;
    },
    (
      tables_inside view free passes _ _ cut.lefts,
      tables_inside view free passes _ _ cut.rights,
      rw (cut.columns, cut.rows) (none_outside free view.near passes old.columns.items were),
    ),
  )
