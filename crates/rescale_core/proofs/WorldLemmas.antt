-- Lines that grow, and pieces that come.
use Rattle.std.proofs.Common.{◌≡◌, ℕ, zero, suc, ◌+◌, ◌<◌, ◌≤◌, Bool, cond, Option, Some, option_map, List, [], ◌∷◌}
use Rattle.std.proofs.Common.{◌++◌, length, map, drop, refl, ap, ◌∙◌, append_assoc, arith, eq-eqb, ne_eqb}
use Rattle.std.proofs.{lemmas.Bool.cond_both, lemmas.List.Elements.filter-append}
use Rattle.std.specs.List.{range_with_len}
use Rattle.mfotl_model.specs.declared.event.TimePoint.{TimePoint}
use Rattle.mfotl_model.specs.Strategies.{Strategy, workers_of}
use Rattle.rescale_worker.specs.Lines.{ChangeOfStrategy, Spot, Due, change_at, moved, spot_after, line, dues, place}
use Rattle.rescale_worker.specs.Lines.{MayRead, AreSound}
use Rattle.rescale_core.specs.{Soundly.Supplies, Soundly.change_of, Handing.nth, Handing.item_of}
use Rattle.monitorable.specs.CoreForms.{CoreForm}
use Rattle.monitor_state.specs.declared.state.Piece.{Piece}
use Rattle.rescale_worker.specs.declared.{item.Entry.Entry, item.Entry.TheVariants.Point, item.Entry.TheVariants.Change}
use Rattle.rescale_worker.specs.declared.{item.Item.Item}
use Rattle.rescale_worker.specs.Lines.Due.{Slicing, Parting, Hole}

pub line_more : (k : ℕ) (a : Spot) (es more : List Entry)
    → line k a (es ++ more) ≡ line k a es ++ line k (spot_after a es) more
line_more k a [] more = refl
line_more k a (e ∷ es) more = simp (append_assoc, line_more k (moved a e) es more)

pub spot_more : (a : Spot) (es more : List Entry) → spot_after a (es ++ more) ≡ spot_after (spot_after a es) more
spot_more a [] more = refl
spot_more a (e ∷ es) more = spot_more (moved a e) es more

pub sound_more : (c : CoreForm) (a : Spot) (es : List Entry) (e : Entry) → AreSound c a es
    → MayRead c (spot_after a es) e → AreSound c a (es ++ e ∷ [])
sound_more c a [] e s m = (m, tt)
sound_more c a (x ∷ es) e s m = (s.0, sound_more c (moved a x) es e s.1 m)

pub nth_append : {A : Type 0} (xs ys : List A) (n : ℕ) (x : A) → nth xs n ≡ Some x → nth (xs ++ ys) n ≡ Some x
nth_append [] ys n x e = cc
nth_append (y ∷ xs) ys zero x e = e
nth_append (y ∷ xs) ys (suc n) x e = nth_append xs ys n x e

pub supplies_line : (c : CoreForm) (k : ℕ) (pieces : List Piece) (ds more : List Due) (is : List Item)
    → Supplies c k pieces ds is → Supplies c k pieces (ds ++ more) is
supplies_line c k pieces ds more [] s = tt
supplies_line c k pieces [] more (i ∷ is) s = absurd s
supplies_line c k pieces (d ∷ ds) more (i ∷ is) s = (s.0, supplies_line c k pieces ds more is s.1)

pub supplies_length : (c : CoreForm) (k : ℕ) (pieces : List Piece) (ds : List Due) (is : List Item)
    → Supplies c k pieces ds is → length is ≤ length ds
supplies_length c k pieces ds [] s = omega arith
supplies_length c k pieces [] (i ∷ is) s = absurd s
supplies_length c k pieces (d ∷ ds) (i ∷ is) s = let h = supplies_length c k pieces ds is s.1 in omega arith

pub mapped : {A B : Type 0} (f : A → B) (o : Option A) (y : B) → option_map f o ≡ Some y → (x : A) × (o ≡ Some x)
    × (f x ≡ y)
mapped f o y e = grind arith

pub item_stays : (c : CoreForm) (k : ℕ) (pieces ps : List Piece) (d : Due) (i : Item)
    → item_of c k pieces d ≡ Some i → item_of c k (pieces ++ ps) d ≡ Some i
item_stays c k pieces ps d i e = grind (arith, mapped, nth_append, filter-append)

pub supplies_pieces : (c : CoreForm) (k : ℕ) (pieces ps : List Piece) (ds : List Due) (is : List Item)
    → Supplies c k pieces ds is → Supplies c k (pieces ++ ps) ds is
supplies_pieces c k pieces ps ds [] s = tt
supplies_pieces c k pieces ps [] (i ∷ is) s = absurd s
supplies_pieces c k pieces ps (d ∷ ds) (i ∷ is) s = search (item_stays, supplies_pieces c k pieces ps ds is s.1)

pub supplies_next : (c : CoreForm) (k : ℕ) (pieces : List Piece) (ds : List Due) (is : List Item) (d : Due)
    (rest : List Due) (i : Item) → Supplies c k pieces ds is → drop (length is) ds ≡ d ∷ rest
    → item_of c k pieces d ≡ Some i → Supplies c k pieces ds (is ++ i ∷ [])
supplies_next c k pieces [] [] d rest i s e f = cc
supplies_next c k pieces (x ∷ ds) [] d rest i s e f = let h : x ≡ d = cc in (ap (item_of c k pieces) h ∙ f, tt)
supplies_next c k pieces [] (j ∷ is) d rest i s e f = absurd s
supplies_next c k pieces (x ∷ ds) (j ∷ is) d rest i s e f = (s.0, supplies_next c k pieces ds is d rest i s.1 e f)

-- ---- changes, by their generation

pub change_more : (a : Spot) (es more : List Entry) (g : ℕ) (t : ChangeOfStrategy) → change_of a es g ≡ Some t
    → change_of a (es ++ more) g ≡ Some t
change_more a [] more g t e = cc
change_more a (Point p ∷ es) more g t e = change_more (moved a (Point p)) es more g t e
change_more a (Change s ∷ es) more g t e = grind (arith, change_more (moved a (Change s)) es more g t)

-- each change on the line is the one of its generation, and generations rise from part to part
abbrev pub AreChanges : (ℕ → Option ChangeOfStrategy) → List Due → Type 0
AreChanges f [] = Unit {0}
AreChanges f (Slicing g s log p ∷ ds) = AreChanges f ds
AreChanges f (Parting t ∷ ds) = (f t.generation ≡ Some t) × AreChanges f ds
AreChanges f (Hole t j ∷ ds) = (f t.generation ≡ Some t) × AreChanges f ds

abbrev pub Rises : ℕ → List Due → Type 0
Rises g [] = Unit {0}
Rises g (Slicing h s log p ∷ ds) = Rises g ds
Rises g (Parting t ∷ ds) = (g < t.generation) × Rises t.generation ds
Rises g (Hole t j ∷ ds) = Rises g ds

rises_weak : (g h : ℕ) (ds : List Due) → g ≤ h → Rises h ds → Rises g ds
rises_weak g h [] e r = tt
rises_weak g h (Slicing x s log p ∷ ds) e r = rises_weak g h ds e r
rises_weak g h (Parting t ∷ ds) e r = (omega arith, r.1)
rises_weak g h (Hole t j ∷ ds) e r = rises_weak g h ds e r

-- where a place's holes are before what holds
pub holes_before : (P : List Due → Type 0) (t : ChangeOfStrategy) (is : List ℕ) (ds : List Due)
    → ((i : ℕ) (ds : List Due) → P ds → P (Hole t i ∷ ds)) → P ds → P (map (λ i. Hole t i) is ++ ds)
holes_before P t [] ds hole r = r
holes_before P t (i ∷ is) ds hole r = hole i _ (holes_before P t is ds hole r)

pub if_either : (P : List Due → Type 0) (b : Bool) (ds : List Due) → P ds → P [] → P (cond b ds [])
if_either P b ds x y = cond_both b ds [] P (λ _. x) (λ _. y)

-- each generation on the line is above g
abbrev pub Above : ℕ → List Due → Type 0
Above g [] = Unit {0}
Above g (Slicing h s log p ∷ ds) = Above g ds
Above g (Parting t ∷ ds) = (g < t.generation) × Above g ds
Above g (Hole t j ∷ ds) = (g < t.generation) × Above g ds

above_weak : (g h : ℕ) (ds : List Due) → g ≤ h → Above h ds → Above g ds
above_weak g h [] e r = tt
above_weak g h (Slicing x s log p ∷ ds) e r = above_weak g h ds e r
above_weak g h (Parting t ∷ ds) e r = (omega arith, above_weak g h ds e r.1)
above_weak g h (Hole t j ∷ ds) e r = (omega arith, above_weak g h ds e r.1)

-- the line behind a change
pub behind_change : (P : List Due → Type 0) (k : ℕ) (a : Spot) (s : Strategy) (more : List Due) → ((parts places : Bool)
    → P (cond parts (Parting (change_at a s) ∷ []) [] ++ (cond places (place (change_at a s)) [] ++ more)))
    → P (dues k a (Change s) ++ more)
behind_change P k a s more h = search (append_assoc)

-- the same, with what holds behind the part
pub before_change : (P Q : List Due → Type 0) (k : ℕ) (a : Spot) (s : Strategy) (more : List Due)
    → ((ds : List Due) → Q ds → P ds × P (Parting (change_at a s) ∷ ds)) → Q more → Q (place (change_at a s) ++ more)
    → P (dues k a (Change s) ++ more)
before_change P Q k a s more part none all = grind arith

-- and what a time-point makes due is before what holds
pub before_point : (P : List Due → Type 0) (k : ℕ) (a : Spot) (p : TimePoint) (more : List Due) → P more
    → P (Slicing a.generation a.strategy a.points p ∷ more) → P (dues k a (Point p) ++ more)
before_point P k a p more none all = grind arith

pub line_above : (k : ℕ) (es : List Entry) (a : Spot) → Above a.generation (line k a es)
line_above k [] a = tt
line_above k (Point p ∷ es) a = grind (arith, before_point, line_above k es (moved a (Point p)))
line_above k (Change s ∷ es) a =
    let more : List Due = line k (moved a (Change s)) es in
    let rest = above_weak a.generation (a.generation + 1) more (omega arith) (line_above k es (moved a (Change s))) in
    before_change (Above a.generation) (Above a.generation) k a s more (λ ds r. (r, (omega arith, r))) rest
    (holes_before (Above a.generation) (change_at a s) (range_with_len 0 (workers_of a.strategy)) more
    (λ i ds r. (omega arith, r)) rest)

pub line_rises : (k : ℕ) (es : List Entry) (a : Spot) → Rises a.generation (line k a es)
line_rises k [] a = tt
line_rises k (Point p ∷ es) a = grind (arith, before_point, line_rises k es (moved a (Point p)))
line_rises k (Change s ∷ es) a =
    let more : List Due = line k (moved a (Change s)) es in
    let rest = line_rises k es (moved a (Change s)) in
    before_change (Rises a.generation) (Rises (a.generation + 1)) k a s more
    (λ ds r. (rises_weak a.generation (a.generation + 1) ds (omega arith) r, (omega arith, r))) rest
    (holes_before (Rises (a.generation + 1)) (change_at a s) (range_with_len 0 (workers_of a.strategy)) more
    (λ i ds r. r) rest)

changes_lift : (a : Spot) (s : Strategy) (es : List Entry) (ds : List Due) → Above (a.generation + 1) ds
    → AreChanges (change_of (moved a (Change s)) es) ds → AreChanges (change_of a (Change s ∷ es)) ds
changes_lift a s es [] b r = tt
changes_lift a s es (Slicing g h log p ∷ ds) b r = changes_lift a s es ds b r
changes_lift a s es (Parting t ∷ ds) b r = grind (arith, ne_eqb, changes_lift a s es ds b.1 r.1)
changes_lift a s es (Hole t j ∷ ds) b r = grind (arith, ne_eqb, changes_lift a s es ds b.1 r.1)

pub line_changes : (k : ℕ) (es : List Entry) (a : Spot) → AreChanges (change_of a es) (line k a es)
line_changes k [] a = tt
line_changes k (Point p ∷ es) a = grind (arith, before_point, line_changes k es (moved a (Point p)))
line_changes k (Change s ∷ es) a =
    let more : List Due = line k (moved a (Change s)) es in
    let f : (ℕ → Option ChangeOfStrategy) = change_of a (Change s ∷ es) in
    let here : f (a.generation + 1) ≡ Some (change_at a s) = cc (eq-eqb (a.generation + 1) (a.generation + 1) refl) in
    let rest = changes_lift a s es more (line_above k es (moved a (Change s)))
    (line_changes k es (moved a (Change s))) in
    before_change (AreChanges f) (AreChanges f) k a s more (λ ds r. (r, (here, r))) rest
    (holes_before (AreChanges f) (change_at a s) (range_with_len 0 (workers_of a.strategy)) more
    (λ i ds r. (here, r)) rest)
