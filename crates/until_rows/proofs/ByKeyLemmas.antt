-- Rows that are listed by a part of them.
use Rattle.std.proofs.Common.{◌≡◌, ℕ, ◌+◌, ◌<◌, Bool, true, false, cond, nat_eq, ◌&&◌, ◌||◌, List, [], ◌∷◌, ◌++◌}
use Rattle.std.proofs.Common.{get_or, length, take, Option, Some, None, refl, sym, ap, ◌∙◌, arith}
use Rattle.std.proofs.lemmas.Bool.{and_parts, or_left, or_right}
use Rattle.std.proofs.Math.Bool.{and-false, or-false}
use Rattle.std.specs.{BTreeMap.is_at, Cmp.eq_by_cmp_equiv, List.list_all, List.list_any, Map.lookup, Ordering.eq_by_cmp}
use Rattle.std.specs.Option.{IfSome, is_some, unwrap_or}
use Rattle.mfotl_model.proofs.RowLemmas.{any_and_last}
use Rattle.mfotl_model.specs.{Tables.has_row, Tables.part, Values.row_cmp, Values.row_total}
use Rattle.mfotl_model.specs.declared.{interval.Interval.Interval, value.Value.Value}
use Rattle.relations.specs.KeptRows.{list_for}
use Rattle.relations.proofs.{MapLemmas.either, MapLemmas.same_row, OperationLaws.any_at, TableRows.has_more}
use Rattle.until_rows.specs.ByKey.{KeyedRows, Listed, is_listed}
use Rattle.until_rows.specs.declared.entries.Entry.{Entry}
use Rattle.until_rows.specs.{Entries.from_place, Entries.met_by, Rules.NoneEmpty}
use Rattle.until_rows.proofs.{EntriesLemmas.all_from_place, RowsLemmas.found_alike}

-- a change at one row of one set
pub changed_set : (h : Bool → Bool) (key row q u : List Value) (old new : List (List Value × List (List Value)))
    (g e : List (List Value)) (w : Option (List (List Value)))
    → lookup (is_at (row_cmp q)) new ≡ cond (is_at (row_cmp key) q) w (lookup (is_at (row_cmp q)) old)
    → unwrap_or w [] ≡ g → e ≡ list_for old key
    → has_row g u ≡ cond (is_at (row_cmp row) u) (h (has_row e u)) (has_row e u)
    → has_row (list_for new q) u ≡ cond (is_at (row_cmp key) q && is_at (row_cmp row) u)
    (h (has_row (list_for old q) u)) (has_row (list_for old q) u)
changed_set h key row q u old new g e w outer is was inner = grind (arith, found_alike key q old)

-- an empty set has no row to lose
pub none_out : (b : Bool) → false ≡ cond b false false
none_out b = grind arith

pub or_cond : (a b : Bool) → (a || b) ≡ cond b true a
or_cond a b = grind arith

-- where a row was put into the set of its part, it is listed, and each other as before
pub listed_more : (right columns : List ℕ) (row u : List Value) (old new : List (List Value × List (List Value)))
    → ((q v : List Value) → has_row (list_for new q) v
    ≡ cond (is_at (row_cmp (part right columns row)) q && is_at (row_cmp row) v) true (has_row (list_for old q) v))
    → is_listed right (record { columns = columns; sets = new }) u
    ≡ (is_listed right (record { columns = columns; sets = old }) u || is_at (row_cmp row) u)
listed_more right columns row u old new step =
    let own = part right columns row in
    grind (arith, step (part right columns u) u, same_row row u, (eq_by_cmp_equiv row_total).refl own)

-- where it was taken out of that set, it isn't
pub listed_gone : (right columns : List ℕ) (row : List Value) (old new : List (List Value × List (List Value)))
    → ((q v : List Value) → has_row (list_for new q) v
    ≡ cond (is_at (row_cmp (part right columns row)) q && is_at (row_cmp row) v) false (has_row (list_for old q) v))
    → is_listed right (record { columns = columns; sets = new }) row ≡ nat_eq (length columns) 0
listed_gone right columns row old new step =
    let own = part right columns row in
    let itself = (eq_by_cmp_equiv row_total).refl in
    grind (arith, step own row, itself own, itself row)

-- and each other is as before
pub listed_others : (right columns : List ℕ) (row u : List Value) (old new : List (List Value × List (List Value)))
    → ((q v : List Value) → has_row (list_for new q) v
    ≡ cond (is_at (row_cmp (part right columns row)) q && is_at (row_cmp row) v) false (has_row (list_for old q) v))
    → is_at (row_cmp row) u ≡ false
    → is_listed right (record { columns = columns; sets = new }) u
    ≡ is_listed right (record { columns = columns; sets = old }) u
listed_others right columns row u old new step apart = grind (arith, step (part right columns u) u)

-- one row of a table more
pub list_more : (table : List (List Value)) (i : ℕ) (x u : List Value) (old cur new : Bool) → i < length table
    → x ≡ get_or table i x → cur ≡ (old || has_row (take i table) u) → new ≡ (cur || is_at (row_cmp x) u)
    → new ≡ (old || has_row (take (i + 1) table) u)
list_more table i x u old cur new low e before step = grind (arith, has_more table i x u low e)

-- a row that is listed already is left out
pub list_same : (is : List Value → Bool) (x u : List Value) → is x ≡ true → is u ≡ (is u || is_at (row_cmp x) u)
list_same is x u there = grind (arith, same_row x u)

-- a row that has entries is listed
pub kept_listed : (right : List ℕ) (keyed : KeyedRows) (rows : List (List Value × List Entry)) (row : List Value)
    → NoneEmpty rows → Listed right keyed rows → is_some (lookup (is_at (row_cmp row)) rows) ≡ true
    → is_listed right keyed row ≡ true
kept_listed right keyed rows row some listed there =
    by (lookup (is_at (row_cmp row)) rows) (some row) (listed row) there
  where
    by : (o : Option (List Entry)) → IfSome o (λ es. 0 < length es)
        → list_all (λ e. is_listed right keyed row) (unwrap_or o []) ≡ true → is_some o ≡ true
        → is_listed right keyed row ≡ true
    by None l all is = absurd (let w : false ≡ true = is in cc)
    by (Some []) l all is = absurd (omega (arith, l))
    by (Some (e ∷ es)) l all is =
        (and_parts (is_listed right keyed row) (list_all (λ f. is_listed right keyed row) es) all).0

pub each_of : (b : Bool) (es : List Entry) → b ≡ true → list_all (λ e. b) es ≡ true
each_of b [] is = refl
each_of b (e ∷ es) is = grind (arith, each_of b es is)

-- after a table was taken, whose rows were listed
pub listed_taken : (right : List ℕ) (old new : KeyedRows) (table : List (List Value)) (entry : List Value → Entry)
    (rows more : List (List Value × List Entry))
    → ((u : List Value) → is_listed right new u ≡ (is_listed right old u || has_row table u))
    → ((u : List Value) → list_for more u ≡ cond (has_row table u) (list_for rows u ++ entry u ∷ []) (list_for rows u))
    → Listed right old rows → Listed right new more
listed_taken right old new table entry rows more lists takes listed u =
    ap (list_all (λ e. is_listed right new u)) (takes u) ∙ by (has_row table u) (lists u)
  where
    by : (b : Bool) → is_listed right new u ≡ (is_listed right old u || b)
        → list_all (λ e. is_listed right new u) (cond b (list_for rows u ++ entry u ∷ []) (list_for rows u))
        ≡ true
    by true is =
        each_of (is_listed right new u) (list_for rows u ++ entry u ∷ [])
        (is ∙ or_right (is_listed right old u) true refl)
    by false is =
        ap (λ b. list_all (λ e. b) (list_for rows u)) (is ∙ or-false (is_listed right old u)) ∙ listed u

-- what is left of the entries of some rows, from a position on
pub listed_thinned : (right : List ℕ) (keyed : KeyedRows) (next : ℕ) (at : List Value → Bool)
    (old new : List (List Value × List Entry))
    → ((u : List Value) → list_for new u ≡ cond (at u) (from_place next (list_for old u)) (list_for old u))
    → Listed right keyed old → Listed right keyed new
listed_thinned right keyed next at old new step listed u = grind (arith, either, all_from_place)

-- after a row of which nothing is kept was taken out
pub listed_without : (right : List ℕ) (old new : KeyedRows) (rows : List (List Value × List Entry)) (row : List Value)
    → list_for rows row ≡ []
    → ((u : List Value) → is_at (row_cmp row) u ≡ false → is_listed right new u ≡ is_listed right old u)
    → Listed right old rows → Listed right new rows
listed_without right old new rows row none others listed u = grind (arith, same_row row u)

-- a row of which nothing is kept needn't be listed
pub listed_if_kept : (rows : List (List Value × List Entry)) (u : List Value) (b : Bool)
    → (list_any (λ e. eq_by_cmp row_cmp u e.0) rows ≡ true → b ≡ true) → list_all (λ e. b) (list_for rows u) ≡ true
listed_if_kept [] u b if_kept = refl
listed_if_kept (e ∷ es) u b if_kept = grind (arith, each_of, or_left, listed_if_kept es u b)

-- one of the rows that are kept was listed
pub list_next : (row u : List Value) (cur new rest : Bool) → new ≡ (cur || is_at (row_cmp row) u)
    → (cur || (eq_by_cmp row_cmp u row || rest)) ≡ true → (new || rest) ≡ true
list_next row u cur new rest step before = grind (arith, (eq_by_cmp_equiv row_total).symm u row)

-- a row that meets UNTIL is listed
met_listed : (interval : Interval) (i x : ℕ) (b : Bool) (es : List Entry) → met_by interval i x es ≡ true
    → list_all (λ e. b) es ≡ true → b ≡ true
met_listed interval i x b [] met all = absurd (let w : false ≡ true = met in cc)
met_listed interval i x b (e ∷ es) met all = (and_parts b (list_all (λ f. b) es) all).0

-- of a row whose part is asked for, what is looked up by all keys is what the row's own entries give
pub found_met : (interval : Interval) (i x : ℕ) (right columns : List ℕ) (keyed : KeyedRows)
    (rows : List (List Value × List Entry)) (keys : List (List Value)) (u : List Value) → Listed right keyed rows
    → nat_eq (length keyed.columns) 0 ≡ false → columns ≡ keyed.columns → has_row keys (part right columns u) ≡ true
    → list_any (λ k. has_row (list_for keyed.sets k) u && met_by interval i x (list_for rows u)) keys
    ≡ met_by interval i x (list_for rows u)
found_met interval i x right columns keyed rows keys u listed some same asked =
    any_and_last (met_by interval i x (list_for rows u)) (λ k. has_row (list_for keyed.sets k) u) keys
    ∙ by (met_by interval i x (list_for rows u)) refl
  where
    own : met_by interval i x (list_for rows u) ≡ true
        → has_row (list_for keyed.sets (part right keyed.columns u)) u ≡ true
    own met =
        sym (ap (λ b. b || has_row (list_for keyed.sets (part right keyed.columns u)) u) some)
        ∙ met_listed interval i x (is_listed right keyed u) (list_for rows u) met (listed u)

    by : (b : Bool) → met_by interval i x (list_for rows u) ≡ b
        → (list_any (λ k. has_row (list_for keyed.sets k) u) keys && b) ≡ b
    by true met =
        ap (λ c. c && true) (any_at (λ k. has_row (list_for keyed.sets k) u) keys (part right keyed.columns u)
        (ap (λ cs. has_row keys (part right cs u)) (sym same) ∙ asked) (own met))
    by false met = and-false (list_any (λ k. has_row (list_for keyed.sets k) u) keys)

-- what is found meets UNTIL
pub found_meets : (interval : Interval) (i x : ℕ) (sets : List (List Value × List (List Value)))
    (rows : List (List Value × List Entry)) (keys : List (List Value)) (u : List Value)
    → list_any (λ k. has_row (list_for sets k) u && met_by interval i x (list_for rows u)) keys ≡ true
    → met_by interval i x (list_for rows u) ≡ true
found_meets interval i x sets rows keys u found =
    (and_parts (list_any (λ k. has_row (list_for sets k) u) keys) (met_by interval i x (list_for rows u))
    (sym (any_and_last (met_by interval i x (list_for rows u)) (λ k. has_row (list_for sets k) u) keys) ∙ found)).1
