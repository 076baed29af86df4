-- What a change at one row leaves at each row.
use Rattle.std.proofs.Common.{arith, ◌≡◌, ℕ, ◌+◌, ◌<◌, Bool, true, false, cond, ◌&&◌, List, [], ◌∷◌, length, get_or}
use Rattle.std.proofs.Common.{take, Option, Some, None, refl, sym, ap}
use Rattle.std.specs.{BTreeMap.is_at, List.list_any, List.filter, Map.lookup, Option.unwrap_or, Cmp.eq_by_cmp_equiv}
use Rattle.mfotl_model.specs.{Values.row_cmp, Values.row_total, Tables.has_row}
use Rattle.mfotl_model.specs.declared.{value.Value.Value, interval.Interval.Interval}
use Rattle.std.proofs.{lemmas.Map.Entries.lookup-filter-keys, lemmas.Grind.common_steps}
use Rattle.relations.specs.KeptRows.{RowsDiffer, list_for}
use Rattle.relations.proofs.{KeptLemmas.differ_tail, KeptLemmas.none_behind, MapLemmas.same_row, TableRows.has_more}
use Rattle.row_times.specs.{Groups.times_at, Times.reaches, Times.recent}

pub recent_none : (hi x : ℕ) → recent hi x [] ≡ []
unfolding recent
recent_none hi x = refl

-- the groups of the parts so far are gone
abbrev pub AreGone : {X : Type 0} → List (List Value) → List (List Value × X) → List (List Value × X) → Type 0
AreGone parts old new = (q : List Value) → lookup (is_at (row_cmp q)) new
    ≡ cond (has_row parts q) None (lookup (is_at (row_cmp q)) old)

-- they alone are there
abbrev pub AreKept : {X : Type 0} → List (List Value) → List (List Value × X) → List (List Value × X) → Type 0
AreKept parts old new = (q : List Value) → lookup (is_at (row_cmp q)) new
    ≡ cond (has_row parts q) (lookup (is_at (row_cmp q)) old) None

pub gone_more : {X : Type 0} (parts : List (List Value)) (i : ℕ) (x : List Value)
    (old cur new : List (List Value × X)) → i < length parts → x ≡ get_or parts i x → AreGone (take i parts) old cur
    → ((q : List Value) → lookup (is_at (row_cmp q)) new
    ≡ cond (is_at (row_cmp x) q) None (lookup (is_at (row_cmp q)) cur)) → AreGone (take (i + 1) parts) old new
gone_more parts i x old cur new low e before step q = grind (arith, has_more)

-- where nothing is found
pub kept_none : {X : Type 0} (parts : List (List Value)) (i : ℕ) (x : List Value)
    (old cur kept : List (List Value × X)) → i < length parts → x ≡ get_or parts i x → AreGone (take i parts) old cur
    → AreKept (take i parts) old kept → None ≡ lookup (is_at (row_cmp x)) cur → AreKept (take (i + 1) parts) old kept
kept_none parts i x old cur kept low e gone before none q = grind (arith, common_steps, has_more, same_row)

-- where a group is found and moved
pub kept_some : {X : Type 0} (parts : List (List Value)) (i : ℕ) (x key : List Value)
    (old cur kept new : List (List Value × X)) (g : X) → i < length parts → x ≡ get_or parts i x
    → AreGone (take i parts) old cur → AreKept (take i parts) old kept → Some g ≡ lookup (is_at (row_cmp x)) cur
    → is_at (row_cmp x) key ≡ true → ((q : List Value) → lookup (is_at (row_cmp q)) new
    ≡ cond (is_at (row_cmp key) q) (Some g) (lookup (is_at (row_cmp q)) kept)) → AreKept (take (i + 1) parts) old new
kept_some parts i x key old cur kept new g low e gone before some same step q =
    grind (arith, has_more parts i x q low e, before q, gone q, step q, same_row x q, same_row x key)

-- where the groups of other parts are left out
pub kept_where : (parts : List (List Value)) (old new : List (List Value × List (List Value × List ℕ)))
    (q v : List Value) → new ≡ filter (λ e. has_row parts e.0) old
    → times_at new q v ≡ cond (has_row parts q) (times_at old q v) []
kept_where parts old new q v e =
    let found = lookup-filter-keys (is_at (row_cmp q)) (has_row parts) (has_row parts q)
    (λ k at. ap (has_row parts) (sym (same_row q k at))) old in
    rw (e, found) (grind arith)

-- a change of one group, which was e, at the rows that are some of those meant
pub regrouped : (h : List ℕ → List ℕ) (key q v : List Value) (meant : Bool)
    (old new : List (List Value × List (List Value × List ℕ))) (g e : List (List Value × List ℕ))
    (w : Option (List (List Value × List ℕ)))
    → lookup (is_at (row_cmp q)) new ≡ cond (is_at (row_cmp key) q) w (lookup (is_at (row_cmp q)) old)
    → unwrap_or w [] ≡ g → e ≡ list_for old key → list_for g v ≡ cond meant (h (list_for e v)) (list_for e v)
    → times_at new q v ≡ cond (is_at (row_cmp key) q && meant) (h (times_at old q v)) (times_at old q v)
regrouped h key q v meant old new g e w outer is was inner = grind (arith, same_row key q)

-- in the group of the empty row
pub ungrouped : (h : List ℕ → List ℕ) (key q v : List Value) (meant : Bool)
    (old new : List (List Value × List (List Value × List ℕ))) (g e : List (List Value × List ℕ))
    (w : Option (List (List Value × List ℕ))) → key ≡ []
    → lookup (is_at (row_cmp q)) new ≡ cond (is_at (row_cmp key) q) w (lookup (is_at (row_cmp q)) old)
    → unwrap_or w [] ≡ g → e ≡ list_for old key → list_for g v ≡ cond meant (h (list_for e v)) (list_for e v)
    → times_at new q v ≡ cond (is_at (row_cmp []) q && meant) (h (times_at old q v)) (times_at old q v)
ungrouped h key q v meant old new g e w none outer is was inner = grind arith

-- an empty group has no times to forget
pub nothing_recent : (hi x : ℕ) (v : List Value) (b : Bool)
    → list_for {X = ℕ} [] v ≡ cond b (recent hi x (list_for [] v)) (list_for [] v)
nothing_recent hi x v b = grind (arith, recent_none hi x)

-- rows stand in the group k alone
abbrev pub StandsIn : List (List Value × List (List Value × List ℕ)) → List Value → List Value → Type 0
StandsIn groups k u = (q : List Value) → is_at (row_cmp k) q ≡ false → times_at groups q u ≡ []

pub stands_tail : (e : List Value × List (List Value × List ℕ)) (es : List (List Value × List (List Value × List ℕ)))
    (k u : List Value) → RowsDiffer (e ∷ es) → StandsIn (e ∷ es) k u → StandsIn es k u
stands_tail e es k u h stands q apart = grind (arith, none_behind q e es h, stands q apart)

-- where a row stands in one group alone, what is found in any group is found there
pub group_is : (interval : Interval) (x : ℕ) (k u : List Value)
    (es : List (List Value × List (List Value × List ℕ))) → RowsDiffer es → StandsIn es k u
    → list_any (λ e. reaches interval (list_for e.1 u) x) es ≡ reaches interval (times_at es k u) x
group_is interval x k u [] h stands = refl
group_is interval x k u (e ∷ es) h stands =
    let rest = group_is interval x k u es (differ_tail e es h) (stands_tail e es k u h stands) in
    grind (arith, rest, none_behind k e es h, stands e.0, (eq_by_cmp_equiv row_total).refl e.0)
