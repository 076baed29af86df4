-- Two joins, one after the other, the second with a table that has no columns of its own.
use Rattle.std.proofs.Common.{◌≡◌, ℕ, Bool, true, false, ◌&&◌, List, [], ◌∷◌, ◌++◌, length, map, pos, refl, sym, ap}
use Rattle.std.proofs.Common.{◌∙◌, arith}
use Rattle.std.proofs.{lemmas.Grind.common_steps, lemmas.List.Elements.filter-append, lemmas.List.Elements.filter_agree}
use Rattle.std.specs.{List.filter, List.flat_map, List.Sorted.IsPermutation}
use Rattle.mfotl_model.proofs.{AscendingLemmas.filter_ascending, RowLemmas.row_exact, ColumnLemmas.read_own}
use Rattle.mfotl_model.proofs.{ColumnLemmas.joined_apart}
use Rattle.mfotl_model.specs.{Ascending.ascending, Satisfaction.Valuation, Values.row_cmp, Values.row_total}
use Rattle.mfotl_model.specs.FreeVariables.{among, joined, others}
use Rattle.mfotl_model.specs.Tables.{TableOf, all_among, has, has_row, part, valuation}
use Rattle.mfotl_model.specs.declared.{value.Value.Value, value.Value.TheVariants.Int}
use Rattle.relations.specs.Operations.{has_part, joined_rows, joined_table, pairs, pairs_of, table_of_rows}
use Rattle.relations.specs.Tables.{IsTable}
use Rattle.relations.proofs.{AscendingRows.made_is, InsideLemmas.matched_is, JoinLemmas.among_others}
use Rattle.relations.proofs.{OperationLaws.has_joined, OperationLaws.sized_pairs, PairLemmas.join_moved}

-- what a row has at a column that it lacks
absent : (columns : List ℕ) (row : List Value) (x : ℕ) → among x columns ≡ false → valuation columns row x ≡ Int (pos 0)
absent [] row x out = refl
absent (y ∷ columns) [] x out = refl
absent (y ∷ columns) (a ∷ row) x out = grind (arith, common_steps, absent columns row x)

-- a row of two, read in its first half and in its second
front_read : (ca k : List ℕ) (ra r : List Value) (x : ℕ) → length ra ≡ length ca → among x ca ≡ true
    → valuation (ca ++ k) (ra ++ r) x ≡ valuation ca ra x
front_read [] k ra r x size m = cc
front_read (y ∷ ca) k [] r x size m = absurd (omega arith)
front_read (y ∷ ca) k (a ∷ ra) r x size m = grind (arith, common_steps, front_read ca k ra r x (omega arith))

back_read : (ca k : List ℕ) (ra r : List Value) (x : ℕ) → length ra ≡ length ca → among x ca ≡ false
    → valuation (ca ++ k) (ra ++ r) x ≡ valuation k r x
back_read [] k [] r x size out = refl
back_read [] k (a ∷ ra) r x size out = absurd (omega arith)
back_read (y ∷ ca) k [] r x size out = absurd (omega arith)
back_read (y ∷ ca) k (a ∷ ra) r x size out = grind (arith, common_steps, back_read ca k ra r x (omega arith))

module _ (ca cb : List ℕ) (ra rb : List Value) (x : ℕ) (size : length ra ≡ length ca) where
  pub first_read : (more : List ℕ) → among x ca ≡ true
      → valuation ca ra x ≡ valuation (ca ++ more) (ra ++ part cb more rb) x
  first_read more m = sym (front_read ca more ra (part cb more rb) x size m)

  pub second_read : (more : List ℕ) → more ≡ others ca cb → among x ca ≡ false
      → valuation cb rb x ≡ valuation (ca ++ more) (ra ++ part cb more rb) x
  unfolding part
  second_read more e out = grind (arith, back_read, read_own, among_others, absent)

-- pairs are kept row by row
pub kept_each : (p : List Value → Bool) (ca cb : List ℕ) (rows bs : List (List Value))
    → flat_map (λ ra. filter p (pairs_of ca cb bs ra)) rows ≡ filter p (pairs ca cb rows bs)
unfolding pairs
kept_each p ca cb [] bs = refl
kept_each p ca cb (ra ∷ rows) bs = simp (filter-append, kept_each p ca cb rows bs)

-- a table is asked by its rows alone
pub kept_alike : (c : TableOf) (rows : List (List Value)) → ((q : List Value) → has_row rows q ≡ has_row c.rows q)
    → (columns : List ℕ) (xs : List (List Value))
    → filter (has_part (table_of_rows c.columns rows) columns) xs ≡ filter (has_part c columns) xs
kept_alike c rows same columns xs = search (filter_agree)

-- what is kept of the pairs that an index finds
pub kept_of_join : (a b : TableOf) (p : List Value → Bool) (moved : List (List Value)) → IsPermutation b.rows moved
    → ascending row_cmp (filter p (pairs a.columns b.columns a.rows moved)) ≡ filter p (joined_rows a b)
kept_of_join a b p moved perm =
    filter_ascending row_total row_exact p (pairs a.columns b.columns a.rows moved)
    ∙ ap (filter p) (join_moved a.columns b.columns b.rows moved perm a.rows)

module _ (a b c : TableOf) (first : IsTable a.columns a.rows) (second : IsTable b.columns b.rows)
    (third : IsTable c.columns c.rows) where
  both_is : IsTable (joined a.columns b.columns) (joined_rows a b)
  both_is = made_is (joined a.columns b.columns) (pairs a.columns b.columns a.rows b.rows) (joined_rows a b)
      (joined_apart a.columns b.columns first.apart second.apart)
      (sized_pairs a.columns b.columns a.rows b.rows first.sized) refl

  pub kept_is : all_among c.columns (joined a.columns b.columns) ≡ true
      → filter (has_part c (joined a.columns b.columns)) (joined_rows a b) ≡ joined_rows (joined_table a b) c
  kept_is inside = matched_is (joined_table a b) c both_is third inside

  pub has_twice : (v : Valuation)
      → has_row (joined_rows (joined_table a b) c) (map v (joined (joined a.columns b.columns) c.columns))
      ≡ ((has a v && has b v) && has c v)
  unfolding has
  has_twice v =
      has_joined (joined_table a b) c v third.apart both_is.sized third.sized
      ∙ ap (λ t. t && has_row c.rows (map v c.columns)) (has_joined a b v second.apart first.sized second.sized)
