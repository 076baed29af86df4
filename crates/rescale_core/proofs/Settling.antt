-- Which time-point settles a position, and that what is settled is final.
use Rattle.std.proofs.Common.{◌≡◌, ◌⊎◌, ℕ, zero, suc, ◌<◌, ◌≤◌, Some, List, [], ◌∷◌, ◌++◌, length, slice_index, sym}
use Rattle.std.proofs.Common.{refl, ◌∙◌, subst, ⊎_elim, arith, length-append}
use Rattle.std.proofs.lemmas.Bool.Decides.{nat_tests}
use Rattle.mfotl_model.specs.{Log.times, Strategies.Strategy}
use Rattle.monitor_state.proofs.LogLemmas.{settled_more, settled_within, viol_final}
use Rattle.monitor_state.specs.{Verdicts.violations_at, Verdicts.settled_in}
use Rattle.rescale_worker.specs.Lines.{Spot, Due, moved, spot_after, AreSound}
use Rattle.monitorable.specs.{Fragment.IsMonitorable, CoreForms.CoreForm}
use Rattle.rescale_core.specs.{Worlds.slice_at}
use Rattle.rescale_worker.specs.{Lines.Due.Slicing}
use Rattle.mfotl_model.specs.declared.event.TimePoint.{TimePoint}
use Rattle.rescale_worker.specs.declared.{item.Entry.Entry, item.Entry.TheVariants.Point, item.Entry.TheVariants.Change}

-- what is settled at a stays settled
pub level_rises : (c : CoreForm) (es : List Entry) (a : Spot) → AreSound c a es
    → settled_in c a.points ≤ settled_in c (spot_after a es).points
level_rises c [] a s = omega arith
level_rises c (Point p ∷ es) a s = let h = level_rises c es (moved a (Point p)) s.1 in
    let m = settled_more c a.points p s.0 in omega arith
level_rises c (Change x ∷ es) a s = level_rises c es (moved a (Change x)) s.1

-- and has the same violations
pub viol_stays : (c : CoreForm) → IsMonitorable c → (es : List Entry) (a : Spot) (i : ℕ) → AreSound c a es
    → i < settled_in c a.points → violations_at c a.points i ≡ violations_at c (spot_after a es).points i
viol_stays c fits [] a i s h = refl
viol_stays c fits (Point p ∷ es) a i s h = let m = settled_more c a.points p s.0 in
    viol_final c a.points p i fits s.0 h ∙ viol_stays c fits es (moved a (Point p)) i s.1 (omega arith)
viol_stays c fits (Change x ∷ es) a i s h = viol_stays c fits es (moved a (Change x)) i s.1 h

index_more : (xs ys : List TimePoint) (i : ℕ) → i < length xs
    → slice_index (times (xs ++ ys)) i ≡ slice_index (times xs) i
index_more [] ys i h = absurd (omega arith)
index_more (x ∷ xs) ys zero h = refl
index_more (x ∷ xs) ys (suc i) h = index_more xs ys i (omega arith)

-- and the same timestamp
pub time_stays : (es : List Entry) (a : Spot) (i : ℕ) → i < length a.points
    → slice_index (times (spot_after a es).points) i ≡ slice_index (times a.points) i
time_stays [] a i h = refl
time_stays (Point p ∷ es) a i h =
    time_stays es (moved a (Point p)) i (let l = length-append a.points (p ∷ []) in omega arith)
    ∙ index_more a.points (p ∷ []) i h
time_stays (Change x ∷ es) a i h = time_stays es (moved a (Change x)) i h

-- ---- slices, by the number of their time-point

abbrev IsSlice : Spot → List Entry → ℕ → ℕ → Strategy → List TimePoint → TimePoint → Type 0
IsSlice a es n g s log p = slice_at a es n ≡ Some (Slicing g s log p)

-- a slice is of the first time-point or of a later one
pub head_or_tail : (a : Spot) (q : TimePoint) (es : List Entry) (n : ℕ) (d : Due) → slice_at a (Point q ∷ es) n ≡ Some d
    → (d ≡ Slicing a.generation a.strategy a.points q) ⊎ (slice_at (moved a (Point q)) es n ≡ Some d)
head_or_tail a q es n d e = grind (arith, nat_tests)

-- a later slice begins no lower
pub slice_above : (c : CoreForm) (es : List Entry) (a : Spot) (n g : ℕ) (s : Strategy) (log : List TimePoint)
    (p : TimePoint) → AreSound c a es → IsSlice a es n g s log p → settled_in c a.points ≤ settled_in c log
slice_above c [] a n g s log p sound e = cc
slice_above c (Change x ∷ es) a n g s log p sound e = slice_above c es (moved a (Change x)) n g s log p sound.1 e
slice_above c (Point q ∷ es) a n g s log p sound e = ⊎_elim
    (λ h. let is : log ≡ a.points = cc in subst (λ l. settled_in c a.points ≤ settled_in c l) (sym is) (omega arith))
    (λ h. let r = slice_above c es (moved a (Point q)) n g s log p sound.1 h in
    let m = settled_more c a.points q sound.0 in omega arith)
    (head_or_tail a q es n (Slicing g s log p) e)

-- a position is settled with one time-point
pub one_slice_settles : (c : CoreForm) (es : List Entry) (a : Spot) (i n m g h : ℕ) (s t : Strategy)
    (log log2 : List TimePoint) (p q : TimePoint) → AreSound c a es → IsSlice a es n g s log p
    → IsSlice a es m h t log2 q → settled_in c log ≤ i → i < settled_in c (log ++ p ∷ []) → settled_in c log2 ≤ i
    → i < settled_in c (log2 ++ q ∷ []) → Slicing g s log p ≡ Slicing h t log2 q
one_slice_settles c [] a i n m g h s t log log2 p q sound e f x y u v = cc
one_slice_settles c (Change z ∷ es) a i n m g h s t log log2 p q sound e f x y u v =
    one_slice_settles c es (moved a (Change z)) i n m g h s t log log2 p q sound.1 e f x y u v
one_slice_settles c (Point z ∷ es) a i n m g h s t log log2 p q sound e f x y u v = ⊎_elim
    (λ e1. ⊎_elim (λ f1. e1 ∙ sym f1)
    (λ f2. let l : log ++ p ∷ [] ≡ a.points ++ z ∷ [] = cc in
    let low = slice_above c es (moved a (Point z)) m h t log2 q sound.1 f2 in
    let high : i < settled_in c (a.points ++ z ∷ []) = subst (λ k. i < settled_in c k) l y in absurd (omega arith))
    (head_or_tail a z es m (Slicing h t log2 q) f))
    (λ e2. ⊎_elim
    (λ f1. let l : log2 ++ q ∷ [] ≡ a.points ++ z ∷ [] = cc in
    let low = slice_above c es (moved a (Point z)) n g s log p sound.1 e2 in
    let high : i < settled_in c (a.points ++ z ∷ []) = subst (λ k. i < settled_in c k) l v in absurd (omega arith))
    (λ f2. one_slice_settles c es (moved a (Point z)) i n m g h s t log log2 p q sound.1 e2 f2 x y u v)
    (head_or_tail a z es m (Slicing h t log2 q) f))
    (head_or_tail a z es n (Slicing g s log p) e)

-- what a slice settles is final
pub slice_final : (c : CoreForm) → IsMonitorable c
    → (es : List Entry) (a : Spot) (i n g : ℕ) (s : Strategy) (log : List TimePoint) (p : TimePoint)
    → AreSound c a es → IsSlice a es n g s log p → i < settled_in c (log ++ p ∷ [])
    → (violations_at c (log ++ p ∷ []) i ≡ violations_at c (spot_after a es).points i)
    × (slice_index (times (log ++ p ∷ [])) i ≡ slice_index (times (spot_after a es).points) i)
slice_final c fits [] a i n g s log p sound e h = cc
slice_final c fits (Change x ∷ es) a i n g s log p sound e h =
    slice_final c fits es (moved a (Change x)) i n g s log p sound.1 e h
slice_final c fits (Point q ∷ es) a i n g s log p sound e h = ⊎_elim
    (λ e1. let l : log ++ p ∷ [] ≡ a.points ++ q ∷ [] = cc in
    let high : i < settled_in c (a.points ++ q ∷ []) = subst (λ k. i < settled_in c k) l h in
    let w = settled_within c (a.points ++ q ∷ []) in (
      rw l (viol_stays c fits es (moved a (Point q)) i sound.1 high),
      rw l (sym (time_stays es (moved a (Point q)) i (omega arith))),
    ))
    (λ e2. slice_final c fits es (moved a (Point q)) i n g s log p sound.1 e2 h)
    (head_or_tail a q es n (Slicing g s log p) e)

pub slice_more : (es more : List Entry) (a : Spot) (n : ℕ) (d : Due) → slice_at a es n ≡ Some d
    → slice_at a (es ++ more) n ≡ Some d
slice_more [] more a n d e = cc
slice_more (Change x ∷ es) more a n d e = slice_more es more (moved a (Change x)) n d e
slice_more (Point q ∷ es) more a n d e = grind (arith, nat_tests, slice_more es more (moved a (Point q)) n d)

-- what a slice settles is settled by all that was read
pub slice_below : (c : CoreForm) (es : List Entry) (a : Spot) (n g : ℕ) (s : Strategy) (log : List TimePoint)
    (p : TimePoint) → AreSound c a es → IsSlice a es n g s log p
    → settled_in c (log ++ p ∷ []) ≤ settled_in c (spot_after a es).points
slice_below c [] a n g s log p sound e = cc
slice_below c (Change x ∷ es) a n g s log p sound e = slice_below c es (moved a (Change x)) n g s log p sound.1 e
slice_below c (Point q ∷ es) a n g s log p sound e = ⊎_elim
    (λ e1. let l : log ++ p ∷ [] ≡ a.points ++ q ∷ [] = cc in
    rw l (level_rises c es (moved a (Point q)) sound.1))
    (λ e2. slice_below c es (moved a (Point q)) n g s log p sound.1 e2)
    (head_or_tail a q es n (Slicing g s log p) e)
