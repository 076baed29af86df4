-- What is read of time-points by a plan of changes: all of them, and each change just before the time-point of its
-- number.
use Rattle.std.proofs.Common.{◌≡◌, ap, subst, refl, ℕ, suc, ◌+◌, ◌≤◌, ◌<◌, arith, Bool, true, false, cond, List, []}
use Rattle.std.proofs.Common.{◌∷◌, ◌++◌, map, length}
use Rattle.std.proofs.lemmas.Bool.{leb-false, leb-true}
use Rattle.std.specs.Prelude.{nat_le}
use Rattle.mfotl_model.specs.Strategies.{Strategy}
use Rattle.mfotl_model.specs.declared.event.TimePoint.{TimePoint}
use Rattle.rescale_worker.specs.declared.{item.Entry.Entry, item.Entry.TheVariants.Point}
use Rattle.rescale_worker.specs.declared.{item.Entry.TheVariants.Change as ToStrategy}
use Rattle.slice_strategy.specs.declared.change.Change.{Change}
use Rattle.main_steps.specs.Changes.{changes_due, changes_later, entries_behind, left_behind, points_in, strategies_in}
use Rattle.main_steps.specs.Laws.{AreDue, EachChangeInOrder, EachJustBefore, EachPointOnce, NoneBehindTheLast}
use Rattle.main_steps.proofs.EntryLemmas.{points_read}

pub each_point_once : EachPointOnce
each_point_once changes points = points_read 0 changes points

-- ---- entry by entry

-- What is read of time-points behind n others, and the changes that are left: a change is read while it is due, and
-- else the next time-point.
data Plans : ℕ → List Change → List TimePoint → List Entry → List Change → Type 0 where
  ends : {n : ℕ} {changes : List Change} → Plans n changes [] [] changes
  change : {n : ℕ} {c : Change} {changes left : List Change} {p : TimePoint} {points : List TimePoint}
      {entries : List Entry} → c.before ≤ n → Plans n changes (p ∷ points) entries left
      → Plans n (c ∷ changes) (p ∷ points) (ToStrategy c.strategy ∷ entries) left
  point : {n : ℕ} {changes left : List Change} {p : TimePoint} {points : List TimePoint} {entries : List Entry}
      → ((c : Change) (rest : List Change) → changes ≡ c ∷ rest → n < c.before)
      → Plans (n + 1) changes points entries left → Plans n changes (p ∷ points) (Point p ∷ entries) left

planned : (n : ℕ) (changes : List Change) (points : List TimePoint)
    → Plans n changes points (entries_behind n changes points) (left_behind n changes points)
planned n changes [] = ends
planned n [] (p ∷ points) = point (λ c rest e. absurd (let f : [] ≡ c ∷ rest = e in cc)) (planned (n + 1) [] points)
planned n (c ∷ changes) (p ∷ points) =
    by (nat_le c.before n) refl (planned n changes (p ∷ points)) (planned (n + 1) (c ∷ changes) points)
  where
    by : (b : Bool) → nat_le c.before n ≡ b
        → Plans n changes (p ∷ points) (entries_behind n changes (p ∷ points)) (left_behind n changes (p ∷ points))
        → Plans (n + 1) (c ∷ changes) points (entries_behind (n + 1) (c ∷ changes) points)
        (left_behind (n + 1) (c ∷ changes) points)
        → Plans n (c ∷ changes) (p ∷ points) (cond b (ToStrategy c.strategy ∷ changes_due n changes) []
        ++ Point p ∷ entries_behind (n + 1) (cond b (changes_later n changes) (c ∷ changes)) points)
        (left_behind (n + 1) (cond b (changes_later n changes) (c ∷ changes)) points)
    by true told first later = change (leb-true c.before n told) first
    by false told first later =
        point (λ d rest (e : c ∷ changes ≡ d ∷ rest).
        let same : c ≡ d = cc in rw same at (leb-false c.before n told)) later

tails_same : {X : Type 0} {x y : X} {xs ys : List X} → x ∷ xs ≡ y ∷ ys → xs ≡ ys
tails_same e = cc

-- the changes are made in their order
strategies_read : {n : ℕ} {changes left : List Change} {points : List TimePoint} {entries : List Entry}
    → Plans n changes points entries left
    → strategies_in entries ++ map (λ (c : Change). c.strategy) left ≡ map (λ (c : Change). c.strategy) changes
strategies_read ends = refl
strategies_read (change {c = c} low rest) = ap (λ ss. c.strategy ∷ ss) (strategies_read rest)
strategies_read (point high rest) = strategies_read rest

pub each_change_in_order : EachChangeInOrder
each_change_in_order changes points = strategies_read (planned 0 changes points)

-- each just before its time-point
just_before : {n : ℕ} {changes left : List Change} {points : List TimePoint} {entries : List Entry}
    → Plans n changes points entries left → (front : List Entry) (p : TimePoint) (back : List Entry)
    → entries ≡ front ++ Point p ∷ back → AreDue (n + length (points_in front)) (length (strategies_in front)) changes
just_before ends [] p back same = absurd (let f : [] ≡ Point p ∷ back = same in cc)
just_before ends (e ∷ front) p back same = absurd (let f : [] ≡ e ∷ (front ++ Point p ∷ back) = same in cc)
just_before (change {c = c} {entries = entries} low rest) [] p back same =
    absurd (let f : ToStrategy c.strategy ∷ entries ≡ Point p ∷ back = same in cc)
just_before (change {c = c} {entries = entries} low rest) (Point q ∷ front) p back same =
    absurd (let f : ToStrategy c.strategy ∷ entries ≡ Point q ∷ (front ++ Point p ∷ back) = same in cc)
just_before (change low rest) (ToStrategy s ∷ front) p back same =
    let due = just_before rest front p back (tails_same same) in
    record { made = (omega arith, due.made); next = due.next }
just_before {n} {changes} (point high rest) [] p back same =
    let at : n ≡ n + 0 = omega arith in
    subst (λ m. AreDue m 0 changes) at (record { made = tt; next = high })
just_before {n} (point high rest) (Point q ∷ front) p back same =
    let at : n + 1 + length (points_in front) ≡ n + suc (length (points_in front)) = omega arith in
    rw at at (just_before rest front p back (tails_same same))
just_before (point {p = q} {entries = entries} high rest) (ToStrategy s ∷ front) p back same =
    absurd (let f : Point q ∷ entries ≡ ToStrategy s ∷ (front ++ Point p ∷ back) = same in cc)

pub each_just_before : EachJustBefore
each_just_before changes points front p back same =
    let at : 0 + length (points_in front) ≡ length (points_in front) = omega arith in
    rw at at (just_before (planned 0 changes points) front p back same)

-- ---- none behind the last time-point

some_point : {n : ℕ} {changes left : List Change} {p : TimePoint} {points : List TimePoint} {entries : List Entry}
    → Plans n changes (p ∷ points) entries left → 0 < length (points_in entries)
some_point (change low rest) = some_point rest
some_point (point high rest) = omega arith

none_behind : {n : ℕ} {changes left : List Change} {points : List TimePoint} {entries : List Entry}
    → Plans n changes points entries left → (front : List Entry) (s : Strategy) (back : List Entry)
    → entries ≡ front ++ ToStrategy s ∷ back → 0 < length (points_in back)
none_behind ends [] s back same = absurd (let f : [] ≡ ToStrategy s ∷ back = same in cc)
none_behind ends (e ∷ front) s back same = absurd (let f : [] ≡ e ∷ (front ++ ToStrategy s ∷ back) = same in cc)
none_behind (change low rest) [] s back same = rw (tails_same same) at (some_point rest)
none_behind (change low rest) (e ∷ front) s back same = none_behind rest front s back (tails_same same)
none_behind (point {p = q} {entries = entries} high rest) [] s back same =
    absurd (let f : Point q ∷ entries ≡ ToStrategy s ∷ back = same in cc)
none_behind (point high rest) (e ∷ front) s back same = none_behind rest front s back (tails_same same)

pub none_behind_the_last : NoneBehindTheLast
none_behind_the_last changes points = none_behind (planned 0 changes points)
