-- Rows that workers gave: each once, by the time-point that settles their position.
use Rattle.std.proofs.Common.{◌≡◌, ℕ, zero, suc, ◌+◌, ◌-◌, ◌<◌, ◌≤◌, true, false, cond, nat_eq, nat_lt, Option, Some}
use Rattle.std.proofs.Common.{List, [], ◌∷◌, ◌++◌, length, map, refl, ap, ◌∙◌, ⊎_elim, arith, eq-eqb, ltb-true}
use Rattle.std.proofs.Common.{length-append, ne_eqb}
use Rattle.std.specs.List.{range_with_len, AllByRecursion}
use Rattle.std.proofs.{lemmas.List.Elements.filter-append, lemmas.Bool.cases_lt, lemmas.Bool.cond_both}
use Rattle.std.proofs.{lemmas.Bool.Decides.nat_tests, Permutation.every_append}
use Rattle.mfotl_model.specs.Strategies.{Strategy, workers_of}
use Rattle.monitor_state.proofs.{LogLemmas.settled_more}
use Rattle.monitor_state.specs.{Verdicts.settled_in}
use Rattle.rescale_core.proofs.{Fitting.every_map, Pieces.none_pass, WorldLemmas.if_either, WorldLemmas.behind_change}
use Rattle.rescale_worker.specs.Lines.{ChangeOfStrategy, Spot, Due, change_at, dues, if_below, moved, line, place}
use Rattle.rescale_worker.specs.Lines.{AreSound}
use Rattle.rescale_worker.specs.Phases.{Parts, Answers, row_for, rows_for}
use Rattle.rescale_core.specs.{Soundly.KnownRow, Soundly.last_level, Worlds.slice_at, Worlds.rows_in}
use Rattle.rescale_worker.specs.{Workers.newly}
use Rattle.verdict_merge.specs.Gathers.{rows_at}
use Rattle.monitorable.specs.CoreForms.{CoreForm}
use Rattle.mfotl_model.specs.declared.event.TimePoint.{TimePoint}
use Rattle.rescale_worker.specs.declared.{item.Entry.Entry, item.Entry.TheVariants.Point, item.Entry.TheVariants.Change}
use Rattle.rescale_worker.specs.declared.{item.Out.Out, item.Out.TheVariants.Rows as OfRows}
use Rattle.rescale_worker.specs.declared.{item.Out.TheVariants.Piece as OfPiece}
use Rattle.verdict_merge.specs.declared.rows.Rows.{Rows}
use Rattle.rescale_worker.specs.Lines.Due.{Slicing, Parting, Hole}

-- what may be due by a change is what is, where the worker is below the strategies' numbers
below_every : (P : Due → Type 0) (k n : ℕ) (ds : List Due) → (k < n → AllByRecursion P ds)
    → AllByRecursion P (if_below k n ds)
below_every P k n ds h = cond_both (nat_lt k n) ds [] (AllByRecursion P) (λ e. h (ltb-true k n e)) (λ e. tt)

holes_every : (P : Due → Type 0) (t : ChangeOfStrategy) (i n : ℕ) → ((j : ℕ) → j < i + n → P (Hole t j))
    → AllByRecursion P (map (λ j. Hole t j) (range_with_len i n))
holes_every P t i zero h = tt
holes_every P t i (suc n) h = (h i (omega arith), holes_every P t (i + 1) n (λ j l. h j (omega arith)))

-- what holds of a slice, of a part and of each hole by an entry holds of all that is due by it
pub point_every : (P : Due → Type 0) (k : ℕ) (a : Spot) (p : TimePoint)
    → (k < workers_of a.strategy → P (Slicing a.generation a.strategy a.points p))
    → AllByRecursion P (dues k a (Point p))
point_every P k a p h =
    below_every P k (workers_of a.strategy) (Slicing a.generation a.strategy a.points p ∷ []) (λ l. (h l, tt))

pub change_every : (P : Due → Type 0) (k : ℕ) (a : Spot) (s : Strategy)
    → (k < workers_of a.strategy → P (Parting (change_at a s)))
    → (k < workers_of s → (j : ℕ) → j < workers_of a.strategy → P (Hole (change_at a s) j))
    → AllByRecursion P (dues k a (Change s))
change_every P k a s part hole =
    every_append P (if_below k (workers_of a.strategy) (Parting (change_at a s) ∷ []))
    (if_below k (workers_of s) (place (change_at a s)))
    (below_every P k (workers_of a.strategy) (Parting (change_at a s) ∷ []) (λ l. (part l, tt)))
    (below_every P k (workers_of s) (place (change_at a s))
    (λ l. holes_every P (change_at a s) 0 (workers_of a.strategy) (λ j h. hole l j (omega arith))))

-- the slice is that of its time-point, not before the n-th, under a strategy that has worker k
abbrev pub IsSliceFrom : (ℕ → Option Due) → ℕ → ℕ → Due → Type 0
IsSliceFrom f n k (Slicing g s log p) =
    (f (length log) ≡ Some (Slicing g s log p)) × (n ≤ length log) × (k < workers_of s)
IsSliceFrom f n k (Parting t) = Unit {0}
IsSliceFrom f n k (Hole t j) = Unit {0}

slice_later : (a : Spot) (q : TimePoint) (es : List Entry) (k : ℕ) (d : Due)
    → IsSliceFrom (slice_at (moved a (Point q)) es) (length (a.points ++ q ∷ [])) k d
    → IsSliceFrom (slice_at a (Point q ∷ es)) (length a.points) k d
slice_later a q es k (Slicing g s log p) h =
    let low = h.1 in
    let l = length-append a.points (q ∷ []) in
    let other : nat_eq (length log) (length a.points) ≡ false = grind (arith, nat_tests) in
    (rw other h.0, omega arith, h.2)
slice_later a q es k (Parting t) h = tt
slice_later a q es k (Hole t j) h = tt

-- each slice on the line is that of its time-point
pub line_slices : (k : ℕ) (es : List Entry) (a : Spot)
    → AllByRecursion (IsSliceFrom (slice_at a es) (length a.points) k) (line k a es)
line_slices k [] a = tt
line_slices k (Point p ∷ es) a =
    let P : Due → Type 0 = IsSliceFrom (slice_at a (Point p ∷ es)) (length a.points) k in
    let same : nat_eq (length a.points) (length a.points) ≡ true = eq-eqb (length a.points) (length a.points) refl in
    every_append P (dues k a (Point p)) (line k (moved a (Point p)) es)
    (point_every P k a p (λ low. (rw same, omega arith, low)))
    (every_map _ P (line k (moved a (Point p)) es) (slice_later a p es k) (line_slices k es (moved a (Point p))))
line_slices k (Change x ∷ es) a =
    let P : Due → Type 0 = IsSliceFrom (slice_at a (Change x ∷ es)) (length a.points) k in
    every_append P (dues k a (Change x)) (line k (moved a (Change x)) es)
    (change_every P k a x (λ low. tt) (λ low j h. tt)) (line_slices k es (moved a (Change x)))

-- what slices settle rises
abbrev pub Ascends : CoreForm → ℕ → List Due → Type 0
Ascends c lo [] = Unit {0}
Ascends c lo (Slicing g s log p ∷ ds) = (lo ≤ settled_in c log) × (settled_in c log ≤ settled_in c (log ++ p ∷ []))
    × Ascends c (settled_in c (log ++ p ∷ [])) ds
Ascends c lo (Parting t ∷ ds) = Ascends c lo ds
Ascends c lo (Hole t j ∷ ds) = Ascends c lo ds

pub ascends_weak : (c : CoreForm) (lo hi : ℕ) (ds : List Due) → lo ≤ hi → Ascends c hi ds → Ascends c lo ds
ascends_weak c lo hi [] e r = tt
ascends_weak c lo hi (Slicing g s log p ∷ ds) e r = (omega arith, r.1, r.2)
ascends_weak c lo hi (Parting t ∷ ds) e r = ascends_weak c lo hi ds e r
ascends_weak c lo hi (Hole t j ∷ ds) e r = ascends_weak c lo hi ds e r

ascends_holes : (c : CoreForm) (lo : ℕ) (t : ChangeOfStrategy) (is : List ℕ) (ds : List Due) → Ascends c lo ds
    → Ascends c lo (map (λ i. Hole t i) is ++ ds)
ascends_holes c lo t [] ds r = r
ascends_holes c lo t (i ∷ is) ds r = ascends_holes c lo t is ds r

pub line_ascends : (c : CoreForm) (k : ℕ) (es : List Entry) (a : Spot) → AreSound c a es
    → Ascends c (settled_in c a.points) (line k a es)
line_ascends c k [] a s = tt
line_ascends c k (Point p ∷ es) a s = let rest = line_ascends c k es (moved a (Point p)) s.1 in
    let m = settled_more c a.points p s.0 in
    if_either (λ x. Ascends c (settled_in c a.points) (x ++ line k (moved a (Point p)) es))
    (nat_lt k (workers_of a.strategy)) (Slicing a.generation a.strategy a.points p ∷ [])
    (omega arith, m, rest)
    (ascends_weak c (settled_in c a.points) (settled_in c (a.points ++ p ∷ []))
    (line k (moved a (Point p)) es) m rest)
line_ascends c k (Change x ∷ es) a s = let more : List Due = line k (moved a (Change x)) es in
    let t : ChangeOfStrategy = change_at a x in let lo : ℕ = settled_in c a.points in
    let rest : Ascends c lo more = line_ascends c k es (moved a (Change x)) s.1 in
    behind_change (Ascends c lo) k a x more (λ parts places.
    let r : Ascends c lo (cond places (place t) [] ++ more) =
    if_either (λ y. Ascends c lo (y ++ more)) places (place t)
    (ascends_holes c lo t (range_with_len 0 (workers_of t.old)) more rest) rest in
    if_either (λ y. Ascends c lo (y ++ (cond places (place t) [] ++ more))) parts (Parting t ∷ []) r r)

-- ---- the rows in answers

pub rows_more : (a b : List Out) → rows_in (a ++ b) ≡ rows_in a ++ rows_in b
rows_more [] b = refl
rows_more (OfRows r ∷ a) b = ap (λ x. r ∷ x) (rows_more a b)
rows_more (OfPiece p ∷ a) b = rows_more a b

parts_no_rows : (c : CoreForm) (k : ℕ) (t : ChangeOfStrategy) (k2 : ℕ) (os : List Out) → Parts c k t k2 os
    → rows_in os ≡ []
parts_no_rows c k t k2 [] p = refl
parts_no_rows c k t k2 (OfRows r ∷ os) p = let x = p.0.1 in cc
parts_no_rows c k t k2 (OfPiece q ∷ os) p = parts_no_rows c k t (k2 + 1) os p.1

pub rows_of_slice : (c : CoreForm) (k g : ℕ) (s : Strategy) (log : List TimePoint) (p : TimePoint) (is : List ℕ)
    → rows_in (map (rows_for c k g s log p) is) ≡ map (row_for c k g s log p) is
rows_of_slice c k g s log p [] = refl
rows_of_slice c k g s log p (i ∷ is) = ap (λ x. row_for c k g s log p i ∷ x) (rows_of_slice c k g s log p is)

pub last_level_more : (c : CoreForm) (n : ℕ) (xs ys : List Due)
    → last_level c n (xs ++ ys) ≡ last_level c (last_level c n xs) ys
last_level_more c n [] ys = refl
last_level_more c n (Slicing g s log p ∷ xs) ys = last_level_more c (settled_in c (log ++ p ∷ [])) xs ys
last_level_more c n (Parting t ∷ xs) ys = last_level_more c n xs ys
last_level_more c n (Hole t j ∷ xs) ys = last_level_more c n xs ys

-- a front of the line, and what is behind it
pub ascends_apart : (c : CoreForm) (lo : ℕ) (xs ys : List Due) → Ascends c lo (xs ++ ys)
    → Ascends c lo xs × Ascends c (last_level c lo xs) ys
ascends_apart c lo [] ys r = (tt, r)
ascends_apart c lo (Slicing g s log p ∷ xs) ys r =
    let h = ascends_apart c (settled_in c (log ++ p ∷ [])) xs ys r.2 in ((r.0, r.1, h.0), h.1)
ascends_apart c lo (Parting t ∷ xs) ys r = ascends_apart c lo xs ys r
ascends_apart c lo (Hole t j ∷ xs) ys r = ascends_apart c lo xs ys r

pub last_ascends : (c : CoreForm) (lo : ℕ) (xs : List Due) → Ascends c lo xs → lo ≤ last_level c lo xs
last_ascends c lo [] r = omega arith
last_ascends c lo (Slicing g s log p ∷ xs) r = let h = last_ascends c (settled_in c (log ++ p ∷ [])) xs r.2 in
    let a = r.0 in let b = r.1 in omega arith
last_ascends c lo (Parting t ∷ xs) r = last_ascends c lo xs r
last_ascends c lo (Hole t j ∷ xs) r = last_ascends c lo xs r

-- rows that a slice to k gave
pub record CameRow (f : ℕ → Option Due) (c : CoreForm) (k lo hi : ℕ) (r : Rows) : Type 0 where
  pub known : KnownRow f c r
  pub worker : r.worker ≡ k
  pub above : lo ≤ r.point
  pub below : r.point < hi

module _ (f : ℕ → Option Due) (c : CoreForm) (k m : ℕ) where
  slice_rows_came : (lo hi g : ℕ) (s : Strategy) (log : List TimePoint) (p : TimePoint) (j n : ℕ)
      → IsSliceFrom f m k (Slicing g s log p) → lo ≤ settled_in c log
      → settled_in c log ≤ j → j + n ≤ settled_in c (log ++ p ∷ []) → settled_in c (log ++ p ∷ []) ≤ hi
      → AllByRecursion (CameRow f c k lo hi) (map (row_for c k g s log p) (range_with_len j n))
  slice_rows_came lo hi g s log p j zero e l a b h = tt
  slice_rows_came lo hi g s log p j (suc n) e l a b h = (
    record {
      known =
          record { strategy = s; log = log; point = p; is = e.0; row = refl; low = a; high = omega arith; near = e.2 };
      worker = refl;
      above = omega arith;
      below = omega arith;
    },
    slice_rows_came lo hi g s log p (j + 1) n e l (omega arith) (omega arith) h,
  )

  pub rows_came : (lo low : ℕ) (ds : List Due) (os : List Out) → lo ≤ low → Ascends c low ds
      → AllByRecursion (IsSliceFrom f m k) ds → Answers c k ds os
      → AllByRecursion (CameRow f c k lo (last_level c low ds)) (rows_in os)
  rows_came lo low [] os l u s a = rw a tt
  rows_came lo low (Slicing g s log p ∷ ds) os l u sl a =
      let mid : ℕ = settled_in c (log ++ p ∷ []) in
      let begins : low ≤ settled_in c log = u.0 in
      let up : settled_in c log ≤ mid = u.1 in
      rw (a.2, rows_more a.0 a.1, ap rows_in a.3 ∙ rows_of_slice c k g s log p (newly c log p))
      (every_append (CameRow f c k lo (last_level c mid ds)) (map (row_for c k g s log p) (newly c log p))
      (rows_in a.1)
      (slice_rows_came lo (last_level c mid ds) g s log p (settled_in c log) (mid - settled_in c log) sl.0
      (omega arith) (omega arith) (omega arith) (last_ascends c mid ds u.2))
      (rows_came lo mid ds a.1 (omega arith) u.2 sl.1 a.4))
  rows_came lo low (Parting t ∷ ds) os l u s a =
      rw (a.2, rows_more a.0 a.1, parts_no_rows c k t 0 a.0 a.3.1) (rows_came lo low ds a.1 l u s.1 a.4)
  rows_came lo low (Hole t j ∷ ds) os l u s a =
      rw (a.2, rows_more a.0 a.1, ap rows_in a.3) (rows_came lo low ds a.1 l u s.1 a.4)

-- ---- at most one for a position

rows_none : (f : ℕ → Option Due) (c : CoreForm) (k lo hi i : ℕ) (rs : List Rows)
    → AllByRecursion (CameRow f c k lo hi) rs → i < lo → rows_at i rs ≡ []
rows_none f c k lo hi i rs a e =
    none_pass (λ r. nat_eq r.point i) rs
    (every_map _ _ rs (λ r h. (let above = h.above in grind (arith, nat_tests))) a)

range_none : (c : CoreForm) (k g : ℕ) (s : Strategy) (log : List TimePoint) (p : TimePoint) (i j n : ℕ)
    → (j ≤ i → j + n ≤ i) → rows_at i (map (row_for c k g s log p) (range_with_len j n)) ≡ []
range_none c k g s log p i j zero h = refl
range_none c k g s log p i j (suc n) h =
    let rest = range_none c k g s log p i (j + 1) n (λ l. (let m = h (omega arith) in omega arith)) in
    let other : nat_eq j i ≡ false = ne_eqb j i (λ e. (let m = h (omega arith) in omega arith)) in
    rw other rest

range_lone : (c : CoreForm) (k g : ℕ) (s : Strategy) (log : List TimePoint) (p : TimePoint) (i j n : ℕ)
    → length (rows_at i (map (row_for c k g s log p) (range_with_len j n))) ≤ 1
range_lone c k g s log p i j zero = omega arith
range_lone c k g s log p i j (suc n) =
    let rest = range_lone c k g s log p i (j + 1) n in
    let none : j ≡ i → length (rows_at i (map (row_for c k g s log p) (range_with_len (j + 1) n))) ≡ 0 =
    λ e. ap length (range_none c k g s log p i (j + 1) n (λ l. absurd (omega arith))) in
    grind (arith, nat_tests)

pub rows_lone : (f : ℕ → Option Due) (c : CoreForm) (k m lo i : ℕ) (ds : List Due) (os : List Out) → Ascends c lo ds
    → AllByRecursion (IsSliceFrom f m k) ds → Answers c k ds os → length (rows_at i (rows_in os)) ≤ 1
rows_lone f c k m lo i [] os u s a = rw a (omega arith)
rows_lone f c k m lo i (Slicing g s log p ∷ ds) os u sl a =
    let mid : ℕ = settled_in c (log ++ p ∷ []) in
    let up : settled_in c log ≤ mid = u.1 in
    let here : List Rows = map (row_for c k g s log p) (newly c log p) in
    let both : rows_at i (rows_in os) ≡ rows_at i here ++ rows_at i (rows_in a.1) =
    rw (a.2, rows_more a.0 a.1, ap rows_in a.3 ∙ rows_of_slice c k g s log p (newly c log p))
    (filter-append (λ r. nat_eq r.point i) here (rows_in a.1)) in
    let long : length (rows_at i (rows_in os)) ≡ length (rows_at i here) + length (rows_at i (rows_in a.1)) =
    ap length both ∙ length-append (rows_at i here) (rows_at i (rows_in a.1)) in
    let one = range_lone c k g s log p i (settled_in c log) (mid - settled_in c log) in
    let rest = rows_lone f c k m mid i ds a.1 u.2 sl.1 a.4 in
    ⊎_elim
    (λ early. let none : length (rows_at i (rows_in a.1)) ≡ 0 =
    ap length (rows_none f c k mid (last_level c mid ds) i (rows_in a.1)
    (rows_came f c k m mid mid ds a.1 (omega arith) u.2 sl.1 a.4) early) in omega arith)
    (λ late. let none : length (rows_at i here) ≡ 0 =
    ap length (range_none c k g s log p i (settled_in c log) (mid - settled_in c log) (λ l. (omega arith))) in
    omega arith)
    (cases_lt i mid)
rows_lone f c k m lo i (Parting t ∷ ds) os u s a =
    rw (a.2, rows_more a.0 a.1, parts_no_rows c k t 0 a.0 a.3.1) (rows_lone f c k m lo i ds a.1 u s.1 a.4)
rows_lone f c k m lo i (Hole t j ∷ ds) os u s a =
    rw (a.2, rows_more a.0 a.1, ap rows_in a.3) (rows_lone f c k m lo i ds a.1 u s.1 a.4)
