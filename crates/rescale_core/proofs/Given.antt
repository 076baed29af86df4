-- Which time-point settles a position, and that each of its workers gave Rows for it.
use Rattle.std.proofs.Common.{◌≡◌, ℕ, zero, suc, ◌+◌, ◌-◌, ◌<◌, ◌≤◌, Bool, true, ◌&&◌, nat_eq, Some, List, [], ◌∷◌}
use Rattle.std.proofs.Common.{◌++◌, length, map, refl, append_assoc, arith, eq-eqb, ne_eqb, length-append, ⊎_elim}
use Rattle.std.proofs.lemmas.Bool.{or_left, or_right, cases_lt, cases_eq}
use Rattle.std.proofs.{lemmas.List.Folds.list_any-append, lemmas.Bool.Decides.nat_tests}
use Rattle.std.specs.List.{list_any, range_with_len}
use Rattle.mfotl_model.specs.Strategies.{Strategy, workers_of}
use Rattle.mfotl_model.specs.declared.event.TimePoint.{TimePoint}
use Rattle.monitorable.specs.CoreForms.{CoreForm}
use Rattle.verdict_merge.specs.Gathers.{rows_at}
use Rattle.verdict_merge.specs.declared.rows.Rows.{Rows}
use Rattle.monitor_state.specs.{Verdicts.settled_in}
use Rattle.rescale_core.proofs.{Rowing.rows_more, Rowing.rows_of_slice}
use Rattle.rescale_worker.proofs.{Chains.taken_if}
use Rattle.rescale_worker.specs.Lines.{Due, Spot, dues, line, moved, spot_after}
use Rattle.rescale_worker.specs.{Lines.Due.Slicing, Phases.Answers, Phases.row_for, Workers.newly}
use Rattle.rescale_core.specs.{Worlds.rows_in, Worlds.slice_at}
use Rattle.rescale_worker.specs.declared.{item.Entry.Entry, item.Entry.TheVariants.Point, item.Entry.TheVariants.Change}
use Rattle.rescale_worker.specs.declared.{item.Out.Out}

slice_up : (es : List Entry) (a : Spot) (n g : ℕ) (s : Strategy) (log : List TimePoint) (p : TimePoint)
    → slice_at a es n ≡ Some (Slicing g s log p) → length a.points ≤ length log
slice_up [] a n g s log p e = cc
slice_up (Change x ∷ es) a n g s log p e = slice_up es (moved a (Change x)) n g s log p e
slice_up (Point q ∷ es) a n g s log p e =
    let rest = slice_up es (moved a (Point q)) n g s log p in
    let l = length-append a.points (q ∷ []) in
    grind (arith, nat_tests)

-- the time-point with which a position is settled
abbrev pub Settles : CoreForm → Spot → List Entry → ℕ → Type 0
Settles c a es i =
    (g : ℕ) × (s : Strategy) × (log : List TimePoint) × (p : TimePoint)
    × (slice_at a es (length log) ≡ Some (Slicing g s log p))
    × (settled_in c log ≤ i) × (i < settled_in c (log ++ p ∷ []))

pub settling : (c : CoreForm) (es : List Entry) (a : Spot) (i : ℕ) → settled_in c a.points ≤ i
    → i < settled_in c (spot_after a es).points → Settles c a es i
settling c [] a i low high = absurd (omega arith)
settling c (Change x ∷ es) a i low high = settling c es (moved a (Change x)) i low high
settling c (Point q ∷ es) a i low high = ⊎_elim
    (λ here. (a.generation, a.strategy, a.points, q, rw (eq-eqb (length a.points) (length a.points) refl), low, here))
    (λ later.
    let r = settling c es (moved a (Point q)) i later high in
    let up = slice_up es (moved a (Point q)) (length r.2) r.0 r.1 r.2 r.3 r.4 in
    let l = length-append a.points (q ∷ []) in
    (r.0, r.1, r.2, r.3, rw (ne_eqb (length r.2) (length a.points) (λ e. (omega arith))) r.4, r.5, r.6))
    (cases_lt i (settled_in c (a.points ++ q ∷ [])))

-- ---- it is on the line of each of its workers

-- what is due stands on the line
abbrev pub OnLine : List Due → Due → Type 0
OnLine ds d = (before : List Due) × (behind : List Due) × (ds ≡ before ++ d ∷ behind)

line_behind : (front ds : List Due) (d : Due) → OnLine ds d → OnLine (front ++ ds) d
line_behind front ds d r = (front ++ r.0, r.1, rw (r.2, append_assoc))

pub on_line : (k : ℕ) (es : List Entry) (a : Spot) (n g : ℕ) (s : Strategy) (log : List TimePoint) (p : TimePoint)
    → k < workers_of s → slice_at a es n ≡ Some (Slicing g s log p) → OnLine (line k a es) (Slicing g s log p)
on_line k [] a n g s log p low e = cc
on_line k (Change x ∷ es) a n g s log p low e =
    line_behind (dues k a (Change x)) _ _ (on_line k es (moved a (Change x)) n g s log p low e)
on_line k (Point q ∷ es) a n g s log p low e = ⊎_elim
    (λ here.
    let found = rw (eq-eqb n (length a.points) here) at e in
    let same : Slicing a.generation a.strategy a.points q ≡ Slicing g s log p = cc in
    let strategy : s ≡ a.strategy = cc in
    let due = taken_if k (workers_of a.strategy) (Slicing a.generation a.strategy a.points q ∷ [])
    (rw (← strategy) low) in
    ([], line k (moved a (Point q)) es, rw (due, same)))
    (λ later.
    line_behind (dues k a (Point q)) _ _
    (on_line k es (moved a (Point q)) n g s log p low (rw (ne_eqb n (length a.points) later) at e)))
    (cases_eq n (length a.points))

-- ---- and its Rows were given

-- whether Rows are of a worker and a position
abbrev pub is_of : ℕ → ℕ → Rows → Bool
is_of k i r = nat_eq r.worker k && nat_eq r.point i

row_there : (c : CoreForm) (k g : ℕ) (s : Strategy) (log : List TimePoint) (p : TimePoint) (i j n : ℕ) → j ≤ i
    → i < j + n → list_any (is_of k i) (map (row_for c k g s log p) (range_with_len j n)) ≡ true
row_there c k g s log p i j zero low high = absurd (omega arith)
row_there c k g s log p i j (suc n) low high =
    let rest = λ (more : j + 1 ≤ i). row_there c k g s log p i (j + 1) n more (omega arith) in
    grind (arith, nat_tests)

pub given_there : (c : CoreForm) (k i : ℕ) (before : List Due) (g : ℕ) (s : Strategy) (log : List TimePoint)
    (p : TimePoint) (behind : List Due) (outs : List Out) → settled_in c log ≤ i → i < settled_in c (log ++ p ∷ [])
    → Answers c k (before ++ Slicing g s log p ∷ behind) outs → list_any (is_of k i) (rows_in outs) ≡ true
given_there c k i [] g s log p behind outs low high a =
    let j : ℕ = settled_in c log in
    let n : ℕ = settled_in c (log ++ p ∷ []) - j in
    rw (a.2, rows_more a.0 a.1, list_any-append, a.3, rows_of_slice c k g s log p (newly c log p))
    (or_left _ (list_any (is_of k i) (rows_in a.1)) (row_there c k g s log p i j n low (omega arith)))
given_there c k i (d ∷ before) g s log p behind outs low high a =
    rw (a.2, rows_more a.0 a.1, list_any-append)
    (or_right (list_any (is_of k i) (rows_in a.0)) _ (given_there c k i before g s log p behind a.1 low high a.4))

pub worker_there : (k i : ℕ) (rs : List Rows) → list_any (is_of k i) rs ≡ true
    → list_any (nat_eq k) (map (λ (r : Rows). r.worker) (rows_at i rs)) ≡ true
worker_there k i [] h = h
worker_there k i (r ∷ rs) h = let rest = worker_there k i rs in grind (arith, nat_tests)
