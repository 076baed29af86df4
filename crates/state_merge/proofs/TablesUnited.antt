-- Tables united: they are exact for both regions, have nothing outside them, and keep their columns and number.
use Rattle.std.proofs.Common.{◌≡◌, ℕ, suc, ◌+◌, ◌||◌, List, [], ◌∷◌, length, map, refl, sym, ap, ap₂, ◌∙◌, arith}
use Rattle.std.proofs.lemmas.Bool.{or_parts}
use Rattle.std.specs.List.{AllByRecursion}
use Rattle.mfotl_model.specs.Exact.{AllExact, Exact, View}
use Rattle.mfotl_model.specs.{Formulas.Form, Regions.Region, Satisfaction.Valuation, Tables.TableOf, Tables.has}
use Rattle.mfotl_model.specs.declared.value.Value.{Value}
use Rattle.eval_bool.specs.{BoolData.TablesOver, BoolData.with_tables, IsJoin.FewFrom, JoinView.ChildOf}
use Rattle.monitorable.specs.CoreForms.{CoreForm, meaning}
use Rattle.relations.specs.Pushed.{AreOver}
use Rattle.monitor_state.specs.{JoinedRows.RowsUnion, StateLaws.seen_in, StateStands.TablesStand}
use Rattle.monitor_state.specs.StateInside.{RowsInside, TableInside, TablesInside}
use Rattle.monitor_state.specs.StateUnions.{ListsUnion, TableUnion, TablesUnion}
use Rattle.state_merge.proofs.JoinedLemmas.{pooled_test}

pub over_union : (columns : List ℕ) (xs ys zs : List TableOf) → AreOver columns xs → TablesUnion xs ys zs
    → AreOver columns zs
over_union columns [] [] [] over u = tt
over_union columns (x ∷ xs) (y ∷ ys) (z ∷ zs) over u = search (over_union columns xs ys zs over.1 u.1)
over_union columns xs ys zs over u = absurd u

pub union_length : (xs ys zs : List TableOf) → TablesUnion xs ys zs → length zs ≡ length xs
union_length [] [] [] u = refl
union_length (x ∷ xs) (y ∷ ys) (z ∷ zs) u = ap suc (union_length xs ys zs u.1)
union_length xs ys zs u = absurd u

pub lists_rule : (p : ℕ) (children : List ChildOf) (xs ys zs : List (List TableOf)) → TablesOver children xs
    → FewFrom p (with_tables children xs) → ListsUnion xs ys zs
    → TablesOver children zs × FewFrom p (with_tables children zs)
lists_rule p [] [] [] [] over few u = (tt, tt)
lists_rule p (c ∷ children) (x ∷ xs) (y ∷ ys) (z ∷ zs) over few u =
    grind (arith, over_union, union_length, lists_rule p children xs ys zs over.1 few.1 u.1)
lists_rule p children xs ys zs over few u = absurd assumption

module _ (view : View) (r q all : Region) (union : (vs : List ℕ) (v : Valuation) → all vs v ≡ (r vs v || q vs v)) where
  module _ (f : Form) (i : ℕ) (a b c : TableOf) (ea : Exact (seen_in view r) f i a) (ia : TableInside r a)
      (eb : Exact (seen_in view q) f i b) (ib : TableInside q b) (u : TableUnion a b c) where
    same : b.columns ≡ a.columns
    same = eb.columns ∙ sym ea.columns

    has_union : (v : Valuation) → has c v ≡ (has a v || has b v)
    unfolding has
    has_union v = rw (u.columns, same) (u.rows (map v a.columns))

    table_union : Exact (seen_in view all) f i c × TableInside all c
    table_union = grind (arith, has_union, pooled_test, or_parts, ap₂, same)

  -- tables of one position after the other
  pub tables_union : (f : Form) (i : ℕ) (xs ys zs : List TableOf) → AllExact (seen_in view r) f i xs → TablesInside r xs
      → AllExact (seen_in view q) f i ys → TablesInside q ys → TablesUnion xs ys zs
      → AllExact (seen_in view all) f i zs × TablesInside all zs
  tables_union f i [] [] [] ex ix ey iy u = (tt, tt)
  tables_union f i (x ∷ xs) (y ∷ ys) (z ∷ zs) ex ix ey iy u =
      let first = table_union f i x y z ex.0 ix.0 ey.0 iy.0 u.0 in
      let rest = tables_union f (i + 1) xs ys zs ex.1 ix.1 ey.1 iy.1 u.1 in
      ((first.0, rest.0), (first.1, rest.1))
  tables_union f i xs ys zs ex ix ey iy u = absurd u

  -- the same where the tables stand behind equal numbers of positions
  pub tables_at : (f : Form) (i j k : ℕ) (xs ys zs : List TableOf) → j ≡ i → k ≡ i → AllExact (seen_in view r) f i xs
      → TablesInside r xs → AllExact (seen_in view q) f j ys → TablesInside q ys → TablesUnion xs ys zs
      → AllExact (seen_in view all) f k zs × TablesInside all zs
  tables_at f i j k xs ys zs ji ki ex ix ey iy u = grind (arith, tables_union)

  -- children's tables
  pub lists_union : (p : ℕ) (fs : List CoreForm) (xs ys zs : List (List TableOf)) → TablesStand (seen_in view r) p fs xs
      → AllByRecursion (TablesInside r) xs → TablesStand (seen_in view q) p fs ys → AllByRecursion (TablesInside q) ys
      → ListsUnion xs ys zs → TablesStand (seen_in view all) p fs zs × AllByRecursion (TablesInside all) zs
  lists_union p [] [] [] [] ex ix ey iy u = (tt, tt)
  lists_union p (f ∷ fs) (x ∷ xs) (y ∷ ys) (z ∷ zs) ex ix ey iy u =
      let first = tables_union (meaning f) p x y z ex.1 ix.0 ey.1 iy.0 u.0 in
      let rest = lists_union p fs xs ys zs ex.2 ix.1 ey.2 iy.1 u.1 in
      ((ap (λ n. p + n) (union_length x y z u.0) ∙ ex.0, first.0, rest.0), (first.1, rest.1))
  lists_union p fs xs ys zs ex ix ey iy u = absurd assumption

  -- nothing is kept outside both regions
  pub rows_inside : {X : Type 0} (both : X → X → X) (columns : List ℕ) (a b c : List (List Value × X))
      → RowsInside r columns a → RowsInside q columns b → RowsUnion both a b c → RowsInside all columns c
  rows_inside both columns a b c ia ib u v n = grind arith
