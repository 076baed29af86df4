-- What is read of time-points by a plan of changes.
use Rattle.std.proofs.Common.{◌≡◌, ◌∙◌, ap, sym, refl, ℕ, ◌+◌, ◌≤◌, ◌<◌, arith, Bool, false, cond, List, [], ◌∷◌, ◌++◌}
use Rattle.std.proofs.Common.{length, append_assoc, append-nil}
use Rattle.std.proofs.lemmas.Bool.{le-leb, lt-leb}
use Rattle.std.specs.Prelude.{nat_le}
use Rattle.mfotl_model.specs.declared.event.TimePoint.{TimePoint}
use Rattle.rescale_worker.specs.declared.{item.Entry.Entry, item.Entry.TheVariants.Point}
use Rattle.rescale_worker.specs.declared.{item.Entry.TheVariants.Change as ToStrategy}
use Rattle.slice_strategy.specs.declared.change.Change.{Change}
use Rattle.main_steps.specs.Changes.{changes_due, changes_later, entries_behind, left_behind, points_in}

-- ---- the time-points among them

pub points_more : (xs ys : List Entry) → points_in (xs ++ ys) ≡ points_in xs ++ points_in ys
points_more [] ys = refl
points_more (Point p ∷ xs) ys = ap (λ ps. p ∷ ps) (points_more xs ys)
points_more (ToStrategy s ∷ xs) ys = points_more xs ys

none_by : (n : ℕ) (c : Change) (changes : List Change) (b : Bool) → points_in (changes_due n changes) ≡ []
    → points_in (cond b (ToStrategy c.strategy ∷ changes_due n changes) []) ≡ []
none_by n c changes b none = grind arith

-- changes are none
pub points_due : (n : ℕ) (changes : List Change) → points_in (changes_due n changes) ≡ []
points_due n [] = refl
points_due n (c ∷ changes) = none_by n c changes (nat_le c.before n) (points_due n changes)

-- where no time-point is among the later ones
pub points_with : (xs ys : List Entry) → points_in ys ≡ [] → points_in (xs ++ ys) ≡ points_in xs
points_with xs ys none = cc (points_more xs ys, append-nil (points_in xs))

pub points_read : (n : ℕ) (changes : List Change) (points : List TimePoint)
    → points_in (entries_behind n changes points) ≡ points
points_read n changes [] = refl
points_read n changes (p ∷ points) =
    search (points_more, points_due, points_read (n + 1) (changes_later n changes) points)

-- ---- one time-point more

pub entries_more : (n m : ℕ) (changes : List Change) (points : List TimePoint) (p : TimePoint) → m ≡ n + length points
    → entries_behind n changes (points ++ p ∷ [])
    ≡ entries_behind n changes points ++ (changes_due m (left_behind n changes points) ++ Point p ∷ [])
entries_more n m changes [] p e = let same : m ≡ n = omega arith in rw same refl
entries_more n m changes (q ∷ points) p e =
    ap (λ es. changes_due n changes ++ Point q ∷ es)
    (entries_more (n + 1) m (changes_later n changes) points p (omega arith))
    ∙ sym (append_assoc (changes_due n changes) (Point q ∷ entries_behind (n + 1) (changes_later n changes) points)
    (changes_due m (left_behind n changes (q ∷ points)) ++ Point p ∷ []))

pub left_more : (n m : ℕ) (changes : List Change) (points : List TimePoint) (p : TimePoint) → m ≡ n + length points
    → left_behind n changes (points ++ p ∷ []) ≡ changes_later m (left_behind n changes points)
left_more n m changes [] p e = let same : m ≡ n = omega arith in rw same refl
left_more n m changes (q ∷ points) p e = left_more (n + 1) m (changes_later n changes) points p (omega arith)

-- ---- what is due

-- the first change is
pub one_due : (n : ℕ) (c : Change) (rest : List Change) → c.before ≤ n
    → (changes_due n (c ∷ rest) ≡ ToStrategy c.strategy ∷ changes_due n rest)
    × (changes_later n (c ∷ rest) ≡ changes_later n rest)
one_due n c rest low = search (le-leb)

-- none is
pub none_due : (n : ℕ) (changes : List Change) → ((c : Change) (rest : List Change) → changes ≡ c ∷ rest → n < c.before)
    → (changes_due n changes ≡ []) × (changes_later n changes ≡ changes)
none_due n [] none = (refl, refl)
none_due n (c ∷ changes) none =
    let high : n < c.before = none c changes refl in
    let told : nat_le c.before n ≡ false = lt-leb c.before n high in (
      ap (λ b. cond b (ToStrategy c.strategy ∷ changes_due n changes) []) told,
      ap (λ b. cond b (changes_later n changes) (c ∷ changes)) told,
    )
