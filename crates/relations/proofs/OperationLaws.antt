-- What the lists of the operations are to valuations, and that they make tables.
use Rattle.std.proofs.Common.{◌≡◌, ◌↔◌, ℕ, Bool, true, not, ◌&&◌, ◌||◌, nat_eq, List, [], ◌∷◌, length, map, Result}
use Rattle.std.proofs.Common.{OnOk, OnErr, refl, sym, ap, ap₂, ◌∙◌, arith}
use Rattle.std.proofs.{lemmas.Bool.and_parts, lemmas.Bool.eqb-true, lemmas.Grind.common_steps, lemmas.List.length-map}
use Rattle.std.proofs.{lemmas.List.Kept.IsStrictlySortedBy-filter, lemmas.Map.Lookups.btree_set_from_contains}
use Rattle.std.proofs.{lemmas.Map.Views.any-filter_same, lemmas.Map.Views.tells_apart, Math.Bool.beq}
use Rattle.std.proofs.{Math.Bool.and_comm}
use Rattle.std.proofs.lemmas.List.Folds.{list_all-append, Any-from_list_any, list_any-from_Any}
use Rattle.std.specs.{BTreeSet.BTreeSet, BTreeSet.insert_key, List.list_any, List.filter}
use Rattle.std.specs.{List.Sorted.IsStrictlySortedBy, Ordering.eq_by_cmp}
use Rattle.mfotl_model.proofs.{AscendingLemmas.any_insert, AscendingLemmas.sorted_insert, LogicLemmas.any_map}
use Rattle.mfotl_model.proofs.{RowLemmas.row_exact}
use Rattle.mfotl_model.proofs.ColumnLemmas.{same_columns, row_kept, read_own}
use Rattle.mfotl_model.specs.{Ascending.ascending, FreeVariables.among, FreeVariables.joined, Values.row_cmp}
use Rattle.mfotl_model.specs.{Values.row_total}
use Rattle.mfotl_model.specs.Satisfaction.{Valuation, compares, term_value}
use Rattle.mfotl_model.specs.declared.{term.Comparison.Comparison, term.Term.Term, value.Value.Value}
use Rattle.mfotl_model.specs.Tables.{TableOf, all_among, all_apart, all_sized, has, has_row, part, valuation}
use Rattle.relations.specs.Operations.{agree, covers_term, chosen, chosen_rows, combined, joined_rows, pairs, pairs_of}
use Rattle.relations.specs.Operations.{unmatched_rows}
use Rattle.relations.specs.Tables.{IsTable}
use Rattle.relations.proofs.AscendingRows.{has_ascending, sized_ascending, sized_inserted}
use Rattle.relations.proofs.JoinLemmas.{join_has, member_of_all, same_each, row_itself}
use Rattle.relations.proofs.TableRows.{lacks_other}

-- rows of as many values as columns

part_size : (columns wanted : List ℕ) (row : List Value) → length (part columns wanted row) ≡ length wanted
unfolding part
part_size columns wanted row = length-map wanted (valuation columns row)

sized_combined : (ca cb : List ℕ) (ra : List Value) → length ra ≡ length ca → (zs : List (List Value))
    → all_sized (length (joined ca cb)) (map (combined ca cb ra) zs) ≡ true
unfolding combined
sized_combined ca cb ra size [] = refl
sized_combined ca cb ra size (z ∷ zs) = grind (arith, common_steps, part_size, sized_combined ca cb ra size zs)

pub sized_pairs : (ca cb : List ℕ) (as_ bs : List (List Value)) → all_sized (length ca) as_ ≡ true
    → all_sized (length (joined ca cb)) (pairs ca cb as_ bs) ≡ true
unfolding pairs pairs_of
sized_pairs ca cb [] bs sized = refl
sized_pairs ca cb (ra ∷ as_) bs sized =
    let parts = and_parts (nat_eq (length ra) (length ca)) (all_sized (length ca) as_) sized in
    let here = sized_combined ca cb ra (eqb-true (length ra) (length ca) parts.0) (filter (agree ca cb ra) bs) in
    grind (arith, common_steps, list_all-append, here, sized_pairs ca cb as_ bs parts.1)

pub sized_parts : (columns wanted : List ℕ) (rows : List (List Value))
    → all_sized (length wanted) (map (part columns wanted) rows) ≡ true
sized_parts columns wanted [] = refl
sized_parts columns wanted (row ∷ rows) = grind (arith, part_size, sized_parts columns wanted rows)

pub sized_filtered : (n : ℕ) (p : List Value → Bool) (rows : List (List Value)) → all_sized n rows ≡ true
    → all_sized n (filter p rows) ≡ true
sized_filtered n p [] sized = refl
sized_filtered n p (row ∷ rows) sized = grind (arith, common_steps, sized_filtered n p rows)

-- some of a table's rows are a table
pub some_is : (columns : List ℕ) (p : List Value → Bool) (rows : List (List Value)) → IsTable columns rows
    → IsTable columns (filter p rows)
some_is columns p rows is = record {
  apart = is.apart;
  sized = sized_filtered (length columns) p rows is.sized;
  sorted = IsStrictlySortedBy-filter row_cmp p rows is.sorted;
}

-- valuations

pub filtered_has : (q : List Value) (p : List Value → Bool) (rows : List (List Value))
    → has_row (filter p rows) q ≡ (has_row rows q && p q)
filtered_has q p rows = grind (arith, any-filter_same, tells_apart, row_exact, and_comm)

-- the part of the row that a valuation gives is the row that it gives
pub part_of_own : (v : Valuation) (columns wanted : List ℕ) → all_among wanted columns ≡ true
    → part columns wanted (map v columns) ≡ map v wanted
unfolding part
part_of_own v columns wanted all = grind (arith, same_columns, read_own, member_of_all)

term_of_own : (v : Valuation) (columns : List ℕ) (term : Term) → covers_term columns term ≡ true
    → term_value (valuation columns (map v columns)) term ≡ term_value v term
term_of_own v columns term bound = grind (arith, read_own)

-- what holds of one of the rows holds of some
pub any_at : (p : List Value → Bool) (rows : List (List Value)) (q : List Value) → has_row rows q ≡ true → p q ≡ true
    → list_any p rows ≡ true
any_at p [] q m h = cc
any_at p (row ∷ rows) q m h = grind (arith, common_steps, tells_apart row_exact q row, any_at p rows q)

module _ (v : Valuation) (columns wanted : List ℕ) (rows : List (List Value)) (is : IsTable columns rows)
    (all : all_among wanted columns ≡ true) where
  found : (h : has_row (map (part columns wanted) rows) (map v wanted) ≡ true)
      → (w : Valuation) × (((y : ℕ) → among y wanted ≡ true → w y ≡ v y) × (has_row rows (map w columns) ≡ true))
  unfolding part
  found h =
      let there : list_any (λ row. eq_by_cmp row_cmp (map v wanted) (part columns wanted row)) rows ≡ true =
      sym (any_map (eq_by_cmp row_cmp (map v wanted)) (part columns wanted) rows) ∙ h in
      let it = Any-from_list_any (λ row. eq_by_cmp row_cmp (map v wanted) (part columns wanted row)) rows there in
      let own = list_any-from_Any (eq_by_cmp row_cmp it.1) rows (it.0, it.1, it.2, it.3, row_itself it.1) in
      let long : length it.1 ≡ length columns = grind (arith, lacks_other) in
      grind (arith, tells_apart, row_exact, same_each, row_kept)

  back : (w : Valuation) → ((y : ℕ) → among y wanted ≡ true → w y ≡ v y) → has_row rows (map w columns) ≡ true
      → has_row (map (part columns wanted) rows) (map v wanted) ≡ true
  back w same there =
      any_map (eq_by_cmp row_cmp (map v wanted)) (part columns wanted) rows
      ∙ any_at (λ row. eq_by_cmp row_cmp (map v wanted) (part columns wanted row)) rows (map w columns) there
      (ap (eq_by_cmp row_cmp (map v wanted)) (part_of_own w columns wanted all ∙ same_columns w v wanted same)
      ∙ row_itself (map v wanted))

  -- a table's rows have the wanted part exactly where one of them has it
  pub has_projected : has_row (map (part columns wanted) rows) (map v wanted) ≡ true
      ↔ ((w : Valuation) × (((y : ℕ) → among y wanted ≡ true → w y ≡ v y) × (has_row rows (map w columns) ≡ true)))
  has_projected = (found, λ h. back h.0 h.1.0 h.1.1)

-- one more row

absorbed_by : (a b : Bool) → (a ≡ true → b ≡ true) → (a || b) ≡ b
absorbed_by a b h = grind (arith, common_steps)

pub inserted_again : (xs : List (List Value)) (y : List Value) → IsStrictlySortedBy row_cmp xs → has_row xs y ≡ true
    → insert_key row_cmp xs y ≡ xs
inserted_again xs y sorted there =
    let left : BTreeSet (List Value) = record { keys = insert_key row_cmp xs y } in
    let right : BTreeSet (List Value) = record { keys = xs } in
    btree_set_from_contains row_total left right (sorted_insert row_total row_exact xs y sorted) sorted
    (λ q. any_insert row_total row_exact (eq_by_cmp row_cmp q) xs y
    ∙ absorbed_by (eq_by_cmp row_cmp q y) (has_row xs q)
    (λ e. ap (has_row xs) (tells_apart row_exact q y e) ∙ there))
    row_exact

pub inserted_is : (columns : List ℕ) (rows : List (List Value)) (row : List Value) → IsTable columns rows
    → length row ≡ length columns → IsTable columns (insert_key row_cmp rows row)
inserted_is columns rows row is size =
    record {
      apart = is.apart;
      sized = sized_inserted (length columns) rows row ∙ grind (arith, common_steps, is.sized);
      sorted = sorted_insert row_total row_exact rows row is.sorted;
    }

pub either_way : {T E : Type 0} (P : List (List Value) → Type 0) (r : Result T E) (new a b : List (List Value))
    → OnOk r (new ≡ a) → OnErr r (new ≡ b) → P a → P b → P new
either_way P r new a b h k p q = grind arith

-- tables by their columns and rows

pub has_as : (t : TableOf) (columns : List ℕ) (rows : List (List Value)) (v : Valuation) → t.columns ≡ columns
    → t.rows ≡ rows → has t v ≡ has_row rows (map v columns)
unfolding has
has_as t columns rows v c r = λ i. has_row (r i) (map v (c i))

pub has_joined : (a b : TableOf) (v : Valuation) → all_apart b.columns ≡ true
    → all_sized (length a.columns) a.rows ≡ true → all_sized (length b.columns) b.rows ≡ true
    → has_row (joined_rows a b) (map v (joined a.columns b.columns)) ≡ (has a v && has b v)
unfolding has
has_joined a b v apart first second = simp (has_ascending, join_has)

pub joined_has : (t a b : TableOf) (v : Valuation) → t.columns ≡ joined a.columns b.columns → t.rows ≡ joined_rows a b
    → all_apart b.columns ≡ true → all_sized (length a.columns) a.rows ≡ true
    → all_sized (length b.columns) b.rows ≡ true → has t v ≡ (has a v && has b v)
joined_has t a b v c r apart first second = grind (arith, has_as, has_joined)

some_has : (t a : TableOf) (p : List Value → Bool) (v : Valuation) → t.columns ≡ a.columns → t.rows ≡ filter p a.rows
    → has t v ≡ (has a v && p (map v a.columns))
unfolding has
some_has t a p v c r = has_as t a.columns (filter p a.rows) v c r ∙ filtered_has (map v a.columns) p a.rows

pub unmatched_has : (t a b : TableOf) (v : Valuation) → t.columns ≡ a.columns → t.rows ≡ unmatched_rows a b
    → all_among b.columns a.columns ≡ true → has t v ≡ (has a v && not (has b v))
unfolding has
unmatched_has t a b v c r inside =
    some_has t a (λ row. not (has_row b.rows (part a.columns b.columns row))) v c r
    ∙ ap (λ row. has a v && not (has_row b.rows row)) (part_of_own v a.columns b.columns inside)

pub chosen_has : (t a : TableOf) (comparison : Comparison) (wanted : Bool) (v : Valuation) → t.columns ≡ a.columns
    → t.rows ≡ chosen_rows comparison wanted a → covers_term a.columns comparison.left ≡ true
    → covers_term a.columns comparison.right ≡ true → has t v ≡ (has a v && chosen comparison wanted v)
unfolding chosen
chosen_has t a comparison wanted v c r left right =
    some_has t a (λ row. chosen comparison wanted (valuation a.columns row)) v c r
    ∙ ap₂ (λ x y. has a v && beq wanted (compares comparison.sign x y))
    (term_of_own v a.columns comparison.left left) (term_of_own v a.columns comparison.right right)

-- rows that ascend to those of a join have as many values
pub sized_joined : (a b : TableOf) (rows : List (List Value)) → ascending row_cmp rows ≡ joined_rows a b
    → all_sized (length a.columns) a.rows ≡ true → all_sized (length (joined a.columns b.columns)) rows ≡ true
sized_joined a b rows e sized = grind (arith, sized_ascending, sized_pairs)
