-- Entries of rows and starts of runs, one row of a table after another.
use Rattle.std.proofs.Common.{◌≡◌, ℕ, zero, suc, ◌+◌, ◌<◌, ◌≤◌, Bool, true, false, cond, ◌||◌, List, [], ◌∷◌, ◌++◌}
use Rattle.std.proofs.Common.{Option, Some, None, length, get_or, take, refl, ap, ap₂, ◌∙◌, arith}
use Rattle.std.proofs.{lemmas.Bool.Decides.nat_tests, lemmas.List.length_push, lemmas.Map.Keys.IsDistinct-from_sorted}
use Rattle.std.proofs.{lemmas.Grind.common_steps}
use Rattle.std.specs.{BTreeMap.is_at, Cmp.eq_by_cmp_equiv, List.AllByRecursion, List.IsDistinct}
use Rattle.std.specs.{List.Sorted.IsStrictlySortedBy, Map.lookup, Ordering.eq_by_cmp}
use Rattle.mfotl_model.specs.{Tables.has_row, Values.row_cmp, Values.row_total}
use Rattle.mfotl_model.specs.declared.value.Value.{Value}
use Rattle.relations.specs.KeptRows.{list_for}
use Rattle.relations.proofs.{MapLemmas.same_row, TableRows.has_more}
use Rattle.until_rows.specs.declared.entries.Entry.{Entry}
use Rattle.until_rows.specs.Starts.{later_start}

-- what holds of each item holds of that at a place
equals_one : (eq : List Value → List Value → Bool) (k : List Value) (rows : List (List Value)) (i : ℕ)
    (x : List Value) → AllByRecursion (λ y. eq k y ≡ false) rows → i < length rows → x ≡ get_or rows i x
    → eq k x ≡ false
equals_one eq k rows i x none l e = grind (arith, common_steps, zero)

-- of rows that are apart, those before a place lack the row there
lacks_distinct : (rows : List (List Value)) (i : ℕ) (x : List Value) → IsDistinct (eq_by_cmp row_cmp) rows
    → i < length rows → x ≡ get_or rows i x → has_row (take i rows) x ≡ false
unfolding IsDistinct
lacks_distinct [] i x apart l e = absurd (omega arith)
lacks_distinct (r ∷ rs) zero x apart l e = refl
lacks_distinct (r ∷ rs) (suc i) x apart l e =
    ap₂ (λ b c. b || c)
    ((eq_by_cmp_equiv row_total).symm x r ∙ equals_one (eq_by_cmp row_cmp) r rs i x apart.0 (omega arith) e)
    (lacks_distinct rs i x apart.1 (omega arith) e)

-- the next row of a table isn't among those before it
pub next_lacks : (table : List (List Value)) (k : ℕ) (x : List Value) → IsStrictlySortedBy row_cmp table
    → k < length table → x ≡ get_or table k x → has_row (take k table) x ≡ false
next_lacks table k x sorted l e = cc (lacks_distinct table k x (IsDistinct-from_sorted row_cmp table sorted) l e)

-- one row more of the right operand's table
pub added_more : (table : List (List Value)) (k : ℕ) (x u : List Value) (entry : List Value → Entry) (e : Entry)
    (old cur new : List (List Value × List Entry)) → k < length table → x ≡ get_or table k x
    → has_row (take k table) x ≡ false → e ≡ entry x
    → list_for cur u ≡ cond (has_row (take k table) u) (list_for old u ++ entry u ∷ []) (list_for old u)
    → list_for new u ≡ cond (is_at (row_cmp x) u) (list_for cur u ++ e ∷ []) (list_for cur u)
    → list_for new u ≡ cond (has_row (take (k + 1) table) u) (list_for old u ++ entry u ∷ []) (list_for old u)
added_more table k x u entry e old cur new low is lacks made before step =
    grind (arith, has_more table k x u low is, same_row x u)

-- what the entries of the next row are, before it is added
pub still_old : (table : List (List Value)) (k : ℕ) (x : List Value) (more old cur : List Entry)
    → has_row (take k table) x ≡ false → cur ≡ cond (has_row (take k table) x) more old → cur ≡ old
still_old table k x more old cur lacks e = e ∙ ap (λ b. cond b more old) lacks

-- one row more of a table whose items are changed, where a second change changes nothing
pub changed_more : {X : Type 0} (h : X → X) → ((xs : X) → h (h xs) ≡ h xs)
    → (table : List (List Value)) (k : ℕ) (x u : List Value) (old cur new : X) → k < length table → x ≡ get_or table k x
    → cur ≡ cond (has_row (take k table) u) (h old) old → new ≡ cond (is_at (row_cmp x) u) (h cur) cur
    → new ≡ cond (has_row (take (k + 1) table) u) (h old) old
changed_more h twice table k x u old cur new low is before step = grind (arith, has_more table k x u low is)

-- one row of a table whose items are changed, before the rest of it
pub changed_rest : {X : Type 0} (h : X → X) → ((xs : X) → h (h xs) ≡ h xs)
    → (x : List Value) (rest : List (List Value)) (u : List Value) (cur new : X)
    → new ≡ cond (is_at (row_cmp x) u) (h cur) cur
    → cond (has_row rest u) (h new) new ≡ cond (has_row (x ∷ rest) u) (h cur) cur
changed_rest h twice x rest u cur new step = grind (arith, (eq_by_cmp_equiv row_total).symm x u, twice cur)

-- one more start that is kept
pub kept_more : (table : List (List Value)) (k : ℕ) (row w : List Value) (starts : List Value → ℕ) (s : ℕ)
    (cur new : List (List Value × ℕ)) → k < length table → row ≡ get_or table k row → s ≡ starts row
    → lookup (is_at (row_cmp w)) cur ≡ cond (has_row (take k table) w) (Some (starts w)) None
    → lookup (is_at (row_cmp w)) new ≡ cond (is_at (row_cmp row) w) (Some s) (lookup (is_at (row_cmp w)) cur)
    → lookup (is_at (row_cmp w)) new ≡ cond (has_row (take (k + 1) table) w) (Some (starts w)) None
kept_more table k row w starts s cur new low e from before step =
    grind (arith, has_more table k row w low e, same_row row w)

-- one more run that breaks
pub broken_more : (table : List (List Value)) (k : ℕ) (row w : List Value) (behind : ℕ)
    (old cur new : List (List Value × ℕ)) → k < length table → row ≡ get_or table k row → lookup (is_at (row_cmp w)) cur
    ≡ cond (has_row (take k table) w) (Some behind) (lookup (is_at (row_cmp w)) old)
    → lookup (is_at (row_cmp w)) new ≡ cond (is_at (row_cmp row) w) (Some behind) (lookup (is_at (row_cmp w)) cur)
    → lookup (is_at (row_cmp w)) new
    ≡ cond (has_row (take (k + 1) table) w) (Some behind) (lookup (is_at (row_cmp w)) old)
broken_more table k row w behind old cur new low e before step = grind (arith, has_more table k row w low e)

pub later_twice : (next : ℕ) (o : Option ℕ) → later_start next (later_start next o) ≡ later_start next o
later_twice next o = grind (arith, nat_tests)

pub later_kept : (next s : ℕ) → next < s → Some s ≡ later_start next (Some s)
later_kept next s l = grind (arith, nat_tests)

-- rows that compare as equal have the same look-ups
pub found_alike : {X : Type 0} (u v : List Value) (m : List (List Value × X)) → is_at (row_cmp u) v ≡ true
    → lookup (is_at (row_cmp u)) m ≡ lookup (is_at (row_cmp v)) m
found_alike u v m at = ap (λ r. lookup (is_at (row_cmp r)) m) (same_row u v at)

-- a start at one row, where that of a row is left or removed
pub start_same : (next : ℕ) (row w : List Value) (m : List (List Value × ℕ)) (o : Option ℕ)
    → o ≡ lookup (is_at (row_cmp row)) m → o ≡ later_start next o → lookup (is_at (row_cmp w)) m
    ≡ cond (is_at (row_cmp row) w) (later_start next (lookup (is_at (row_cmp w)) m)) (lookup (is_at (row_cmp w)) m)
start_same next row w m o is same = grind (arith, found_alike row w m)

pub start_gone : (next : ℕ) (row w : List Value) (m n : List (List Value × ℕ)) (s : ℕ)
    → Some s ≡ lookup (is_at (row_cmp row)) m → s ≤ next
    → lookup (is_at (row_cmp w)) n ≡ cond (is_at (row_cmp row) w) None (lookup (is_at (row_cmp w)) m)
    → lookup (is_at (row_cmp w)) n
    ≡ cond (is_at (row_cmp row) w) (later_start next (lookup (is_at (row_cmp w)) m)) (lookup (is_at (row_cmp w)) m)
start_gone next row w m n s is low step = grind (arith, nat_tests, found_alike row w m)

-- what was pushed is there
pub some_pushed : (old new : List Entry) (e : Entry) → new ≡ old ++ e ∷ [] → 0 < length new
some_pushed old new e is = omega (arith, ap length is, length_push old e)

-- where a row was taken out, nothing is left of it
pub none_after : (row gone : List Value) (m n : List (List Value × List Entry)) → is_at (row_cmp row) gone ≡ true
    → lookup (is_at (row_cmp gone)) n ≡ cond (is_at (row_cmp row) gone) None (lookup (is_at (row_cmp gone)) m)
    → list_for n gone ≡ []
none_after row gone m n at step = cc
