-- Where no step can be done, no piece is missing.
use Rattle.std.proofs.Common.{◌≡◌, ◌⊎◌, ℕ, zero, suc, ◌+◌, ◌<◌, ◌≤◌, Bool, true, ◌&&◌, nat_eq, Option, Some, option_map}
use Rattle.std.proofs.Common.{List, [], ◌∷◌, ◌++◌, length, map, take, drop, refl, sym, ap, ◌∙◌, subst, ⊎_elim}
use Rattle.std.proofs.Common.{append_assoc, arith, lt-ltb, take-append-drop}
use Rattle.std.proofs.lemmas.Bool.{or_left, or_right, cases_lt}
use Rattle.std.proofs.{lemmas.Bool.Decides.nat_tests, lemmas.List.length-map, lemmas.List.Folds.list_any-append}
use Rattle.std.proofs.{lemmas.Map.Steps.le-length_from_below, Permutation.every_append}
use Rattle.std.specs.List.{AllByRecursion, list_any}
use Rattle.mfotl_model.specs.Strategies.{Strategy, workers_of}
use Rattle.mfotl_model.proofs.LogicLemmas.{filtered_found}
use Rattle.monitorable.specs.CoreForms.{CoreForm}
use Rattle.rescale_core.proofs.Pieces.{changes_apart, every_behind, first_piece, pieces_more}
use Rattle.rescale_core.proofs.{ReadyLemmas.ready_first, Rowing.change_every, Rowing.point_every}
use Rattle.rescale_core.proofs.{WorldLemmas.AreChanges, WorldLemmas.line_changes}
use Rattle.rescale_worker.specs.Lines.{Due, Spot, ChangeOfStrategy, dues, first_spot, if_below, line, moved, place}
use Rattle.rescale_worker.specs.Lines.{change_at}
use Rattle.rescale_worker.specs.Lines.Due.{Slicing, Parting, Hole}
use Rattle.rescale_core.specs.{Soundly.IsSound, Soundly.change_of, Worlds.Step.Feed}
use Rattle.rescale_worker.specs.{Phases.Answers, Phases.Parts, Workers.slice_for}
use Rattle.rescale_core.specs.Handing.{for_place, item_of, nth, ready_items}
use Rattle.rescale_core.specs.Worlds.{World, Allowed, line_in, pieces_in}
use Rattle.rescale_worker.specs.declared.{item.Entry.Entry, item.Entry.TheVariants.Point, item.Entry.TheVariants.Change}
use Rattle.rescale_worker.specs.declared.{item.Item.Item, item.Out.Out, item.Out.TheVariants.Piece as OfPiece}
use Rattle.rescale_worker.specs.declared.{item.Out.TheVariants.Rows as OfRows}
use Rattle.rescale_worker.specs.declared.item.Item.TheVariants.{Adopt, Part, Slice}
use Rattle.monitor_state.specs.declared.state.Piece.{Piece}

-- ---- what comes before a part

-- a piece that is due is of an earlier change
abbrev pub IsEarlier : ℕ → Due → Type 0
IsEarlier g (Slicing h s log p) = Unit {0}
IsEarlier g (Parting t) = Unit {0}
IsEarlier g (Hole t j) = t.generation < g

earlier_dues : (g k : ℕ) (a : Spot) (e : Entry) → (moved a e).generation < g → AllByRecursion (IsEarlier g) (dues k a e)
earlier_dues g k a (Point p) h = point_every (IsEarlier g) k a p (λ _. tt)
earlier_dues g k a (Change s) h = change_every (IsEarlier g) k a s (λ _. tt) (λ _ _ _. h)

-- a part of a worker's line, with what comes before it
pub record HasPart (ds : List Due) (t : ChangeOfStrategy) : Type 0 where
  pub before : List Due
  pub behind : List Due
  pub is : ds ≡ before ++ Parting t ∷ behind
  pub earlier : AllByRecursion (IsEarlier t.generation) before

-- the change is the first entry's, or comes behind it
here_or_later : (a : Spot) (s : Strategy) (es : List Entry) (g : ℕ) (t : ChangeOfStrategy)
    → change_of a (Change s ∷ es) g ≡ Some t → (change_at a s ≡ t) ⊎ (change_of (moved a (Change s)) es g ≡ Some t)
here_or_later a s es g t e = grind (arith, nat_tests)

change_later : (es : List Entry) (a : Spot) (g : ℕ) (t : ChangeOfStrategy) → change_of a es g ≡ Some t
    → a.generation < t.generation
change_later [] a g t e = cc
change_later (Point p ∷ es) a g t e = change_later es (moved a (Point p)) g t e
change_later (Change s ∷ es) a g t e = ⊎_elim
    (λ here. let same : a.generation + 1 ≡ t.generation = ap (λ (x : ChangeOfStrategy). x.generation) here in
    omega arith)
    (λ next. let h = change_later es (moved a (Change s)) g t next in omega arith)
    (here_or_later a s es g t e)

behind_entry : (k : ℕ) (e : Entry) (es : List Entry) (a : Spot) (t : ChangeOfStrategy)
    → (moved a e).generation < t.generation → HasPart (line k (moved a e) es) t → HasPart (line k a (e ∷ es)) t
behind_entry k e es a t later r = record {
  before = dues k a e ++ r.before;
  behind = r.behind;
  is = ap (λ ds. dues k a e ++ ds) r.is ∙ sym (append_assoc (dues k a e) r.before (Parting t ∷ r.behind));
  earlier = every_append (IsEarlier t.generation) (dues k a e) r.before (earlier_dues t.generation k a e later)
      r.earlier;
}

-- each worker of the old strategy has its part
pub has_part : (k : ℕ) (es : List Entry) (a : Spot) (g : ℕ) (t : ChangeOfStrategy) → change_of a es g ≡ Some t
    → k < workers_of t.old → HasPart (line k a es) t
has_part k [] a g t e low = cc
has_part k (Point p ∷ es) a g t e low =
    behind_entry k (Point p) es a t (change_later es (moved a (Point p)) g t e)
    (has_part k es (moved a (Point p)) g t e low)
has_part k (Change s ∷ es) a g t e low =
    let rest : List Due = if_below k (workers_of s) (place (change_at a s)) ++ line k (moved a (Change s)) es in
    ⊎_elim
    (λ here. let near : k < workers_of a.strategy =
    subst (λ (x : ChangeOfStrategy). k < workers_of x.old) (sym here) low in
    record {
      before = [];
      behind = rest;
      is = rw (lt-ltb k (workers_of a.strategy) near) (ap (λ x. Parting x ∷ rest) here);
      earlier = tt;
    })
    (λ next. behind_entry k (Change s) es a t (change_later es (moved a (Change s)) g t next)
    (has_part k es (moved a (Change s)) g t next low))
    (here_or_later a s es g t e)

-- ---- the pieces that were given

-- whether a piece is of a generation, from one worker to another
abbrev pub is_from_to : ℕ → ℕ → ℕ → Piece → Bool
is_from_to g from to p = nat_eq p.from from && (nat_eq p.generation g && nat_eq p.to to)

part_there : (c : CoreForm) (k : ℕ) (t : ChangeOfStrategy) (to k2 : ℕ) (outs : List Out) → Parts c k t k2 outs → k2 ≤ to
    → to < k2 + length outs → list_any (is_from_to t.generation k to) (pieces_in outs) ≡ true
part_there c k t to k2 [] ps low high = absurd (omega arith)
part_there c k t to k2 (OfRows r ∷ outs) ps low high = let x = ps.0.1 in cc
part_there c k t to k2 (OfPiece p ∷ outs) ps low high =
    let first = first_piece c k t k2 p outs ps in
    let from : p.from ≡ k = first.0 in
    let generation : p.generation ≡ t.generation = first.1.generation in
    let there : p.to ≡ k2 = first.1.to in
    let next : k2 + 1 ≤ to → list_any (is_from_to t.generation k to) (pieces_in outs) ≡ true =
    λ more. part_there c k t to (k2 + 1) outs ps.1 more (omega arith) in
    grind (arith, nat_tests)

-- what answers a part has its pieces
pub piece_there : (c : CoreForm) (k : ℕ) (before : List Due) (t : ChangeOfStrategy) (behind : List Due)
    (outs : List Out) (to : ℕ) → to < workers_of t.new → Answers c k (before ++ Parting t ∷ behind) outs
    → list_any (is_from_to t.generation k to) (pieces_in outs) ≡ true
piece_there c k [] t behind outs to low a =
    let len : length a.0 ≡ workers_of t.new = a.3.0 in
    rw (a.2, pieces_more a.0 a.1, list_any-append (is_from_to t.generation k to) (pieces_in a.0) (pieces_in a.1))
    (or_left _ _ (part_there c k t to 0 a.0 a.3.1 (omega arith) (omega arith)))
piece_there c k (d ∷ before) t behind outs to low a =
    rw (a.2, pieces_more a.0 a.1, list_any-append (is_from_to t.generation k to) (pieces_in a.0) (pieces_in a.1))
    (or_right _ _ (piece_there c k before t behind a.1 to low a.4))

-- so its worker is among those whose pieces came for the place
from_there : (g from to : ℕ) (ps : List Piece) → list_any (is_from_to g from to) ps ≡ true
    → list_any (nat_eq from) (map (λ (p : Piece). p.from) (for_place g to ps)) ≡ true
from_there g from to [] h = h
from_there g from to (p ∷ ps) h = grind (arith, nat_tests, from_there g from to ps)

-- ---- no piece is missing

nth_within : {A : Type 0} (xs : List A) (n : ℕ) → n < length xs → (x : A) × (nth xs n ≡ Some x)
nth_within [] n h = absurd (omega arith)
nth_within (x ∷ xs) zero h = (x, refl)
nth_within (x ∷ xs) (suc n) h = nth_within xs n (omega arith)

-- the first of what is left stands before x or is x
first_left : {A : Type 0} (P : A → Type 0) (n : ℕ) (before : List A) (x : A) (behind : List A)
    → AllByRecursion P before → P x → n ≤ length before
    → (d : A) × (rest : List A) × (drop n (before ++ x ∷ behind) ≡ d ∷ rest) × P d
first_left P zero [] x behind all here h = (x, behind, refl, here)
first_left P zero (d ∷ before) x behind all here h = (d, before ++ x ∷ behind, refl, all.0)
first_left P (suc n) [] x behind all here h = absurd (omega arith)
first_left P (suc n) (d ∷ before) x behind all here h = first_left P n before x behind all.1 here (omega arith)

-- a hole of worker k's line lies within its place, and the worker is one of the new strategy's
abbrev pub IsNear : ℕ → Due → Type 0
IsNear k (Slicing h s log p) = Unit {0}
IsNear k (Parting t) = Unit {0}
IsNear k (Hole t j) = (j < workers_of t.old) × (k < workers_of t.new)

line_near : (k : ℕ) (es : List Entry) (a : Spot) → AllByRecursion (IsNear k) (line k a es)
line_near k [] a = tt
line_near k (Point p ∷ es) a =
    every_append (IsNear k) (dues k a (Point p)) (line k (moved a (Point p)) es)
    (point_every (IsNear k) k a p (λ _. tt)) (line_near k es (moved a (Point p)))
line_near k (Change s ∷ es) a =
    every_append (IsNear k) (dues k a (Change s)) (line k (moved a (Change s)) es)
    (change_every (IsNear k) k a s (λ _. tt) (λ to j low. (low, to))) (line_near k es (moved a (Change s)))

-- what is known of a hole that is the first due of a rest of the line
hole_due : (f : ℕ → Option ChangeOfStrategy) (k n : ℕ) (ds : List Due) (t : ChangeOfStrategy) (j : ℕ) (rest : List Due)
    → AreChanges f ds → AllByRecursion (IsNear k) ds → drop n ds ≡ Hole t j ∷ rest
    → (f t.generation ≡ Some t) × (j < workers_of t.old) × (k < workers_of t.new)
hole_due f k n ds t j rest changes near e =
    let cut = sym (take-append-drop n ds) in
    let left = (changes_apart f (take n ds) (drop n ds) (subst (AreChanges f) cut changes)).1 in
    let left_near = every_behind (IsNear k) (take n ds) (drop n ds) (subst (AllByRecursion (IsNear k)) cut near) in
    let here = (subst (AllByRecursion (IsNear k)) e left_near).0 in
    ((subst (AreChanges f) e left).0, here.0, here.1)

-- the first dues are those before the part, the part, and some behind it
taken_past : (n : ℕ) (before : List Due) (d : Due) (behind : List Due) → length before < n
    → (some : List Due) × (take n (before ++ d ∷ behind) ≡ before ++ d ∷ some)
taken_past zero before d behind h = absurd (omega arith)
taken_past (suc n) [] d behind h = (take n behind, refl)
taken_past (suc n) (x ∷ before) d behind h =
    let r = taken_past n before d behind (omega arith) in
    (r.0, ap (λ ds. x ∷ ds) r.1)

module _ (w : World) (sound : IsSound w) (idle : (k : ℕ) (i : Item) → Allowed w (Feed k i) → ⊥)
    (back : (k : ℕ) → length (w.seats k).fed ≤ (w.seats k).collected) where
  abbrev f : ℕ → Option ChangeOfStrategy
  f = change_of (first_spot w.first) w.read

  -- the first due that wasn't handed over isn't there
  not_there : (k : ℕ) (d : Due) (rest : List Due) (i : Item)
      → drop (length (w.seats k).fed) (line_in w k) ≡ d ∷ rest → item_of w.core k w.pieces d ≡ Some i → ⊥
  not_there k d rest i e is =
      let r = ready_first w.core k w.pieces d rest i is in
      idle k i (r.0, ap (ready_items w.core k w.pieces) e ∙ r.1)

  abbrev Stuck : ℕ → Type 0
  Stuck n = (k : ℕ) (t : ChangeOfStrategy) (j : ℕ) (rest : List Due)
      → drop (length (w.seats k).fed) (line_in w k) ≡ Hole t j ∷ rest → t.generation < n → ⊥

  -- so it is a piece of an earlier change, if it comes before a part
  first_none : (n from : ℕ) (d : Due) (rest : List Due) → Stuck n
      → drop (length (w.seats from).fed) (line_in w from) ≡ d ∷ rest → IsEarlier n d → ⊥
  first_none n from (Slicing g s log p) rest earlier e early =
      not_there from (Slicing g s log p) rest (Slice g (length log) (slice_for w.core s from p)) e refl
  first_none n from (Parting u) rest earlier e early =
      not_there from (Parting u) rest (Part u.generation u.old u.new) e refl
  first_none n from (Hole u j) rest earlier e early = earlier from u j rest e early

  -- where no earlier piece is missing, each worker was handed its part
  part_fed : (t : ChangeOfStrategy) (from : ℕ) (part : HasPart (line_in w from) t) → Stuck t.generation
      → length (w.seats from).fed ≤ length part.before → ⊥
  part_fed t from part earlier h =
      let n : ℕ = length (w.seats from).fed in
      let r = first_left (IsEarlier t.generation) n part.before (Parting t) part.behind part.earlier tt h in
      first_none t.generation from r.0 r.1 earlier (ap (drop n) part.is ∙ r.2) r.3

  -- and what it gave for the part was collected
  piece_came : (k : ℕ) (t : ChangeOfStrategy) (from : ℕ) (part : HasPart (line_in w from) t) → k < workers_of t.new
      → length part.before < length (w.seats from).fed
      → list_any (nat_eq from) (map (λ (p : Piece). p.from) (for_place t.generation k w.pieces)) ≡ true
  piece_came k t from part to h =
      let s = sound.seated from in
      let b = back from in
      let n : ℕ = (w.seats from).collected in
      let r = taken_past n part.before (Parting t) part.behind (omega arith) in
      let a : Answers w.core from (part.before ++ Parting t ∷ r.0) (w.seats from).back =
      subst (λ (ds : List Due). Answers w.core from ds (w.seats from).back) (ap (take n) part.is ∙ r.1) s.back in
      from_there t.generation from k w.pieces
      (filtered_found (λ (p : Piece). nat_eq p.from from) (is_from_to t.generation from k) w.pieces
      (ap (list_any (is_from_to t.generation from k)) s.pieces
      ∙ piece_there w.core from part.before t r.0 (w.seats from).back k to a))

  came : (k : ℕ) (t : ChangeOfStrategy) (from : ℕ) → Stuck t.generation → f t.generation ≡ Some t → k < workers_of t.new
      → from < workers_of t.old
      → list_any (nat_eq from) (map (λ (p : Piece). p.from) (for_place t.generation k w.pieces)) ≡ true
  came k t from earlier change to low =
      let part = has_part from w.read (first_spot w.first) t.generation t change low in
      ⊎_elim (λ h. piece_came k t from part to h) (λ h. absurd (part_fed t from part earlier h))
      (cases_lt (length part.before) (length (w.seats from).fed))

  none_stuck : (n : ℕ) → Stuck n
  none_stuck zero k t j rest e h = absurd (omega arith)
  none_stuck (suc n) k t j rest e h =
      let d = hole_due f k (length (w.seats k).fed) (line_in w k) t j rest (line_changes k w.read (first_spot w.first))
      (line_near k w.read (first_spot w.first)) e in
      let ps : List Piece = for_place t.generation k w.pieces in
      let most = le-length_from_below (map (λ (p : Piece). p.from) ps) (workers_of t.old)
      (λ from low. came k t from
      (λ k2 t2 j2 rest2 e2 h2. none_stuck n k2 t2 j2 rest2 e2 (omega arith)) d.0 d.2 low) in
      let len = length-map ps (λ (p : Piece). p.from) in
      let near = d.1 in
      let x = nth_within ps j (omega arith) in
      not_there k (Hole t j) rest (Adopt x.0 t.new) e (ap (option_map (λ p. Adopt p t.new)) x.1)

  handed_by : (k : ℕ) (ds : List Due) → drop (length (w.seats k).fed) (line_in w k) ≡ ds
      → drop (length (w.seats k).fed) (line_in w k) ≡ []
  handed_by k [] e = e
  handed_by k (Slicing g s log p ∷ rest) e = absurd (first_none 0 k (Slicing g s log p) rest (none_stuck 0) e tt)
  handed_by k (Parting t ∷ rest) e = absurd (first_none 0 k (Parting t) rest (none_stuck 0) e tt)
  handed_by k (Hole t j ∷ rest) e = absurd (none_stuck (suc t.generation) k t j rest e (omega arith))

  -- each worker was handed all that it is due
  pub all_handed : (k : ℕ) → drop (length (w.seats k).fed) (line_in w k) ≡ []
  all_handed k = handed_by k (drop (length (w.seats k).fed) (line_in w k)) refl
