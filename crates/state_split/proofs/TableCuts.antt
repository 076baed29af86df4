-- Tables cut to a region: they are exact for it, have nothing outside it, and keep their columns and number.
use Rattle.std.proofs.Common.{◌≡◌, ℕ, ◌+◌, ◌&&◌, List, [], ◌∷◌, length, map, ap, ◌∙◌}
use Rattle.std.proofs.lemmas.List.{length-map}
use Rattle.std.specs.List.{AllByRecursion}
use Rattle.mfotl_model.specs.Exact.{AllExact, Exact, View}
use Rattle.mfotl_model.specs.{Formulas.Form, Regions.Passes, Regions.Region, Tables.TableOf, Tables.has}
use Rattle.eval_bool.specs.{BoolData.TablesOver, BoolData.with_tables, IsJoin.FewFrom, JoinView.ChildOf}
use Rattle.monitorable.specs.CoreForms.{CoreForm}
use Rattle.relations.specs.Pushed.{AreOver}
use Rattle.monitor_state.specs.{StateCuts.cut_table, StateCuts.cut_tables, StateInside.TablesInside}
use Rattle.monitor_state.specs.{StateStands.TablesStand}
use Rattle.state_split.proofs.RowCuts.{has_cut, table_inside}

module _ (near : Region) where
  over_all : (columns : List ℕ) (ts : List TableOf) → AreOver columns ts → AreOver columns (cut_tables near ts)
  over_all columns [] over = tt
  over_all columns (t ∷ ts) over = (over.0, over_all columns ts over.1)

  pub over_cut : (columns : List ℕ) (ts cs : List TableOf) → cs ≡ cut_tables near ts → AreOver columns ts
      → AreOver columns cs
  over_cut columns ts cs e over = rw e (over_all columns ts over)

  pub length_cut : (ts cs : List TableOf) → cs ≡ cut_tables near ts → length cs ≡ length ts
  length_cut ts cs e = ap length e ∙ length-map ts (cut_table near)

  -- tables pushed behind those pulled
  pub pushed_cut : (p q n : ℕ) (ts cs : List TableOf) → q ≡ p → cs ≡ cut_tables near ts → p + length ts ≡ n
      → q + length cs ≡ n
  pushed_cut p q n ts cs at e pushed = rw (at, length_cut ts cs e) pushed

  pub lists_rule : (p : ℕ) (children : List ChildOf) (tss : List (List TableOf)) → TablesOver children tss
      → FewFrom p (with_tables children tss) → TablesOver children (map (cut_tables near) tss)
      × FewFrom p (with_tables children (map (cut_tables near) tss))
  lists_rule p [] [] over few = (tt, tt)
  lists_rule p (c ∷ children) (ts ∷ tss) over few =
      search (over_all, length-map, lists_rule p children tss over.1 few.1)
  lists_rule p children tss over few = absurd assumption

module _ (view : View) (free : List ℕ) (passes : Passes free view.near) where
  exact_cut : (f : Form) (i : ℕ) (t : TableOf) → Exact view f i t → Exact view f i (cut_table view.near t)
  exact_cut f i t e =
      record {
        columns = e.columns;
        rows = λ dom v covers n.
            has_cut free view.near passes t v
            ∙ ap (λ b. b && has t v) (ap (λ columns. view.near columns v) e.columns ∙ n)
            ∙ e.rows dom v covers n;
      }

  all_cut : (f : Form) (i : ℕ) (ts : List TableOf) → AllExact view f i ts → AllExact view f i (cut_tables view.near ts)
  all_cut f i [] all = tt
  all_cut f i (t ∷ ts) all = (exact_cut f i t all.0, all_cut f (i + 1) ts all.1)

  -- tables from one place on, or from an equal one
  pub tables_exact : (f : Form) (i j : ℕ) (ts cs : List TableOf) → j ≡ i → cs ≡ cut_tables view.near ts
      → AllExact view f i ts → AllExact view f j cs
  tables_exact f i j ts cs at e all = rw (at, e) (all_cut f i ts all)

  all_inside : (ts : List TableOf) → TablesInside view.near (cut_tables view.near ts)
  all_inside [] = tt
  all_inside (t ∷ ts) = (table_inside free view.near passes t, all_inside ts)

  pub tables_inside : (ts cs : List TableOf) → cs ≡ cut_tables view.near ts → TablesInside view.near cs
  tables_inside ts cs e = rw e (all_inside ts)

  pub lists_stand : (p : ℕ) (fs : List CoreForm) (tss : List (List TableOf)) → TablesStand view p fs tss
      → TablesStand view p fs (map (cut_tables view.near) tss)
  lists_stand p [] [] all = tt
  lists_stand p (f ∷ fs) (ts ∷ tss) all = search (length-map, all_cut, lists_stand p fs tss all.2)
  lists_stand p fs tss all = absurd all

  pub lists_inside : (tss : List (List TableOf))
      → AllByRecursion (TablesInside view.near) (map (cut_tables view.near) tss)
  lists_inside [] = tt
  lists_inside (ts ∷ tss) = (all_inside ts, lists_inside tss)
