-- Pairs by ascending rows have the look-ups of the pairs as they came, and no other list by ascending rows has them.
use Rattle.std.proofs.Common.{◌≡◌, Bool, true, false, cond, List, [], ◌∷◌, Option, Some, None, refl, sym, subst, ap}
use Rattle.std.proofs.Common.{◌∙◌, arith}
use Rattle.std.proofs.lemmas.Option.{same_Some}
use Rattle.std.specs.{BTreeMap.insert_entry, BTreeMap.is_at, BTreeSet.insert_key, Cmp.eq_by_cmp_equiv}
use Rattle.std.specs.{List.AllByRecursion, List.Sorted.IsStrictlySortedBy, Map.keys_of, Option.unwrap_or}
use Rattle.std.specs.Ordering.{is_eq, match_ordering, ordering_reverse}
use Rattle.std.specs.declared.cmp.Ordering.{Ordering}
use Rattle.std.specs.declared.cmp.Ordering.TheVariants.{Less, Equal, Greater}
use Rattle.mfotl_model.specs.{Ascending.ascending, Values.row_cmp, Values.row_total}
use Rattle.mfotl_model.specs.declared.value.Value.{Value}
use Rattle.mfotl_model.proofs.{AscendingLemmas.sorted_ascending, RowLemmas.row_exact}
use Rattle.relations.specs.KeptRows.{RowsAscend, RowsDiffer, kept_for, last_for, list_for}
use Rattle.relations.proofs.KeptLemmas.{ascending_differ, last_is, none_behind, or_none}
use Rattle.relations.proofs.MapLemmas.{same_row}
use Rattle.until_rows.specs.declared.entries.Entry.{Entry}
use Rattle.until_rows.specs.InOrder.{in_order}

-- one pair more is found, and so is each other
kept_put : {X : Type 0} (k : List Value) (v : X) (es : List (List Value × X)) (u : List Value)
    → kept_for (insert_entry row_cmp es k v) u ≡ cond (is_at (row_cmp k) u) (Some v) (kept_for es u)
kept_put k v [] u = ap (λ b. cond b (Some v) None) ((eq_by_cmp_equiv row_total).symm u k)
kept_put {X} k v (e ∷ es) u = by (row_cmp k e.0) refl (kept_put k v es u)
  where
    twice : (a : Bool) (r : Option X) → cond a (Some v) r ≡ cond a (Some v) (cond a (Some e.1) r)
    twice true r = refl
    twice false r = refl

    behind : (a : Bool) → is_at (row_cmp u) e.0 ≡ a → row_cmp k e.0 ≡ Greater
        → cond a (Some e.1) (cond (is_at (row_cmp k) u) (Some v) (kept_for es u))
        ≡ cond (is_at (row_cmp k) u) (Some v) (cond a (Some e.1) (kept_for es u))
    behind true at is = sym (ap (λ b. cond b (Some v) (Some e.1))
        (ap (λ w. is_at (row_cmp k) w) (same_row u e.0 at) ∙ ap is_eq is))
    behind false at is = refl

    by : (o : Ordering) → row_cmp k e.0 ≡ o
        → kept_for (insert_entry row_cmp es k v) u ≡ cond (is_at (row_cmp k) u) (Some v) (kept_for es u)
        → kept_for (match_ordering o ((k, v) ∷ e ∷ es) ((e.0, v) ∷ es) (e ∷ insert_entry row_cmp es k v)) u
        ≡ cond (is_at (row_cmp k) u) (Some v) (cond (is_at (row_cmp u) e.0) (Some e.1) (kept_for es u))
    by Less is rest = ap (λ b. cond b (Some v) (cond (is_at (row_cmp u) e.0) (Some e.1) (kept_for es u)))
        ((eq_by_cmp_equiv row_total).symm u k)
    by Equal is rest = twice (is_at (row_cmp u) e.0) (kept_for es u)
        ∙ ap (λ b. cond b (Some v) (cond (is_at (row_cmp u) e.0) (Some e.1) (kept_for es u)))
        ((eq_by_cmp_equiv row_total).symm u e.0 ∙ ap (λ r. is_at (row_cmp r) u) (sym (row_exact k e.0 is)))
    by Greater is rest = ap (cond (is_at (row_cmp u) e.0) (Some e.1)) rest ∙ behind (is_at (row_cmp u) e.0) refl is

-- the look-ups stay
pub kept_in_order : {X : Type 0} (es : List (List Value × X)) (u : List Value)
    → kept_for (in_order es) u ≡ kept_for es u
kept_in_order [] u = refl
kept_in_order (e ∷ es) u = kept_put e.0 e.1 (in_order es) u
    ∙ ap (cond (is_at (row_cmp e.0) u) (Some e.1)) (kept_in_order es u)
    ∙ ap (λ b. cond b (Some e.1) (kept_for es u)) ((eq_by_cmp_equiv row_total).symm e.0 u)

-- one pair more puts its row in its place among the rows
rows_put : {X : Type 0} (k : List Value) (v : X) (es : List (List Value × X))
    → keys_of (insert_entry row_cmp es k v) ≡ insert_key row_cmp (keys_of es) k
rows_put k v [] = refl
rows_put {X} k v (e ∷ es) = grind (arith, rows_put k v es)

rows_in_order : {X : Type 0} (es : List (List Value × X)) → keys_of (in_order es) ≡ ascending row_cmp (keys_of es)
rows_in_order [] = refl
rows_in_order (e ∷ es) = cc (rows_put e.0 e.1 (in_order es), rows_in_order es)

pub in_order_ascends : {X : Type 0} (es : List (List Value × X)) → RowsAscend (in_order es)
in_order_ascends es = subst (IsStrictlySortedBy row_cmp) (sym (rows_in_order es))
    (sorted_ascending row_total row_exact (keys_of es))

-- a row's entries stay
pub entries_in_order : (rows : List (List Value × List Entry)) (u : List Value)
    → list_for (in_order rows) u ≡ list_for rows u
entries_in_order rows u = ap (λ o. unwrap_or o []) (kept_in_order rows u)

-- what a row lies before, a row before it lies before
all_behind : (x y : List Value) (rows : List (List Value)) → row_cmp x y ≡ Less
    → AllByRecursion (λ z. row_cmp y z ≡ Less) rows → AllByRecursion (λ z. row_cmp x z ≡ Less) rows
all_behind x y [] low all = tt
all_behind x y (z ∷ zs) low all = (row_total.trans x y z low all.0, all_behind x y zs low all.1)

-- a row before all rows isn't among them
none_before : {X : Type 0} (u : List Value) (es : List (List Value × X))
    → AllByRecursion (λ y. row_cmp u y ≡ Less) (keys_of es) → kept_for es u ≡ None
none_before u [] all = refl
none_before u (e ∷ es) all = ap (λ b. cond b (Some e.1) (kept_for es u)) (ap is_eq all.0) ∙ none_before u es all.1

head_is : {X : Type 0} (e : List Value × X) (es : List (List Value × X)) → kept_for (e ∷ es) e.0 ≡ Some e.1
head_is e es = ap (λ b. cond b (Some e.1) (kept_for es e.0)) ((eq_by_cmp_equiv row_total).refl e.0)

same_pairs : {X : Type 0} (e f : List Value × X) (es fs : List (List Value × X)) → e.0 ≡ f.0 → e.1 ≡ f.1
    → es ≡ fs → e ∷ es ≡ f ∷ fs
same_pairs e f es fs row value rest = λ i. (row i, value i) ∷ rest i

-- lists by ascending rows with the same look-ups are the same
same_ascending : {X : Type 0} (xs ys : List (List Value × X)) → RowsAscend xs → RowsAscend ys
    → ((u : List Value) → kept_for xs u ≡ kept_for ys u) → xs ≡ ys
unfolding IsStrictlySortedBy
same_ascending [] [] low high same = refl
same_ascending [] (y ∷ ys) low high same = absurd (let w : None ≡ Some y.1 = same y.0 ∙ head_is y ys in cc)
same_ascending (x ∷ xs) [] low high same = absurd (let w : None ≡ Some x.1 = sym (same x.0) ∙ head_is x xs in cc)
same_ascending {X} (x ∷ xs) (y ∷ ys) low high same =
    by (row_cmp x.0 y.0) refl (λ tails. same_ascending xs ys low.1 high.1 tails)
  where
    tails : (u : List Value) (a : Bool) → is_at (row_cmp u) x.0 ≡ a → x.0 ≡ y.0 → kept_for xs u ≡ kept_for ys u
    tails u true at row = none_behind u x xs (ascending_differ (x ∷ xs) low) at
        ∙ sym (none_behind u y ys (ascending_differ (y ∷ ys) high) (ap (is_at (row_cmp u)) (sym row) ∙ at))
    tails u false at row = sym (ap (λ b. cond b (Some x.1) (kept_for xs u)) at) ∙ same u
        ∙ ap (λ b. cond b (Some y.1) (kept_for ys u)) (ap (is_at (row_cmp u)) (sym row) ∙ at)

    by : (o : Ordering) → row_cmp x.0 y.0 ≡ o
        → (((u : List Value) → kept_for xs u ≡ kept_for ys u) → xs ≡ ys) → x ∷ xs ≡ y ∷ ys
    by Less is rest = absurd (let w : Some x.1 ≡ None = sym (head_is x xs) ∙ same x.0
        ∙ none_before x.0 (y ∷ ys) (is, all_behind x.0 y.0 (keys_of ys) is high.0) in cc)
    by Greater is rest = absurd (
        let less : row_cmp y.0 x.0 ≡ Less = row_total.antisymm y.0 x.0 ∙ ap ordering_reverse is in
        let w : Some y.1 ≡ None = sym (head_is y ys) ∙ sym (same y.0)
        ∙ none_before y.0 (x ∷ xs) (less, all_behind y.0 x.0 (keys_of xs) less low.0) in cc)
    by Equal is rest =
        let row : x.0 ≡ y.0 = row_exact x.0 y.0 is in
        let value : Some x.1 ≡ Some y.1 = sym (head_is x xs) ∙ same x.0 ∙ ap (kept_for (y ∷ ys)) row ∙ head_is y ys in
        same_pairs x y xs ys row (same_Some x.1 y.1 value)
        (rest (λ u. tails u (is_at (row_cmp u) x.0) refl row))

-- what a map in order has, once it was filled with the pairs of a map of hashes
pub ordered_is : {X : Type 0} (es tree : List (List Value × X)) → RowsDiffer es → RowsAscend tree
    → ((u : List Value) → kept_for tree u ≡ last_for es u None) → tree ≡ in_order es
ordered_is es tree apart up found = grind (arith, same_ascending, in_order_ascends, last_is, or_none, kept_in_order)

-- a map of hashes, once it was filled with the pairs of a map in order
pub hashed_finds : {X : Type 0} (tree map : List (List Value × X)) → RowsAscend tree
    → ((u : List Value) → kept_for map u ≡ last_for tree u None) → (u : List Value) → kept_for map u ≡ kept_for tree u
hashed_finds tree map up found u = grind (arith, last_is, ascending_differ, or_none)

pub hashed_is : {X : Type 0} (tree map : List (List Value × X)) → RowsAscend tree
    → ((u : List Value) → kept_for map u ≡ last_for tree u None) → in_order map ≡ tree
hashed_is tree map up found = grind (arith, same_ascending, in_order_ascends, kept_in_order, hashed_finds)

-- a map in order, once it was filled with pairs by ascending rows
pub ascending_is : {X : Type 0} (es tree : List (List Value × X)) → RowsAscend es → RowsAscend tree
    → ((u : List Value) → kept_for tree u ≡ last_for es u None) → tree ≡ es
ascending_is es tree low up found = same_ascending tree es up low (hashed_finds es tree low found)
