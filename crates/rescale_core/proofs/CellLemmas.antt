-- A machine's cells, one by one.
use Rattle.std.proofs.Common.{◌≡◌, ◌≢◌, ◌⊎◌, ℕ, zero, suc, ◌+◌, ◌<◌, ◌≤◌, Some, List, [], ◌∷◌, ◌++◌, length, get_or}
use Rattle.std.proofs.Common.{set, sym, refl, ap, ◌∙◌, inl, inr, append_assoc, arith, length-append, ⊎_elim}
use Rattle.std.proofs.lemmas.Bool.Decides.{nat_tests}
use Rattle.mfotl_model.specs.Strategies.{workers_of}
use Rattle.turn_hub.specs.Work.{Leads}
use Rattle.rescale_core.proofs.{Soundness.has_of}
use Rattle.rescale_worker.proofs.{Leading.has_front, Chains.left_out}
use Rattle.rescale_core.specs.{Cells.AreWithin, Cells.IsCellOf, Soundly.IsSound, Handing.nth}
use Rattle.rescale_worker.specs.{Seeds.SeedOf}
use Rattle.rescale_core.specs.{Worlds.Step.Feed, Worlds.Step.Take}
use Rattle.rescale_worker.specs.Lines.{Spot, line, moved}
use Rattle.rescale_worker.specs.Working.{Has, May, StandsFor}
use Rattle.rescale_core.specs.Worlds.{World, Allowed, Seat, world_after, set_seat, took_one}
use Rattle.rescale_core.specs.declared.{cell.Cell.Cell}
use Rattle.rescale_worker.specs.declared.{item.Entry.Entry, item.Entry.TheVariants.Point}
use Rattle.rescale_worker.specs.declared.{item.Entry.TheVariants.Change, item.Item.Item, item.Out.Out}

-- ---- places among cells

pub nth_here : {A : Type 0} (xs : List A) (k : ℕ) (v : A) → k < length xs → v ≡ get_or xs k v → nth xs k ≡ Some v
nth_here [] k v h e = absurd (omega arith)
nth_here (x ∷ xs) zero v h e = ap Some (sym e)
nth_here (x ∷ xs) (suc k) v h e = nth_here xs k v (omega arith) e

pub nth_set : {A : Type 0} (xs : List A) (k : ℕ) (v x : A) → nth (set xs k v) k ≡ Some x → v ≡ x
nth_set [] k v x e = cc
nth_set (y ∷ xs) zero v x e = cc
nth_set (y ∷ xs) (suc k) v x e = nth_set xs k v x e

pub nth_else : {A : Type 0} (xs : List A) (k j : ℕ) (v : A) → j ≢ k → nth (set xs k v) j ≡ nth xs j
nth_else [] k j v n = refl
nth_else (x ∷ xs) zero zero v n = absurd (n refl)
nth_else (x ∷ xs) zero (suc j) v n = refl
nth_else (x ∷ xs) (suc k) zero v n = refl
nth_else (x ∷ xs) (suc k) (suc j) v n = nth_else xs k j v (λ e. n (ap suc e))

pub nth_last : {A : Type 0} (xs : List A) (v : A) (k : ℕ) (x : A) → nth (xs ++ v ∷ []) k ≡ Some x
    → (nth xs k ≡ Some x) ⊎ ((k ≡ length xs) × (v ≡ x))
nth_last [] v zero x e = inr (refl, cc)
nth_last [] v (suc k) x e = cc
nth_last (y ∷ xs) v zero x e = inl e
nth_last (y ∷ xs) v (suc k) x e = ⊎_elim inl (λ h. inr (ap suc h.0, h.1)) (nth_last xs v k x e)

-- ---- workers of no strategy

-- a worker that none of the strategies has is due nothing
pub line_none : (k n : ℕ) (es : List Entry) (a : Spot) → AreWithin n es → workers_of a.strategy ≤ n → n ≤ k
    → line k a es ≡ []
line_none k n [] a h high low = refl
line_none k n (Change s ∷ es) a h high low = grind (arith, left_out, line_none k n es (moved a (Change s)) h.1 h.0 low)
line_none k n (Point p ∷ es) a h high low = grind (arith, left_out, line_none k n es (moved a (Point p)) h.1 high low)

-- what was read is within what all entries are
pub within_front : (n : ℕ) (a b : List Entry) → AreWithin n (a ++ b) → AreWithin n a
within_front n [] b h = tt
within_front n (e ∷ a) b h = (h.0, within_front n a b h.1)

-- ---- one cell

-- the seed of the worker of this number
abbrev pub seed_in : World → ℕ → SeedOf
seed_in w k = record { core = w.core; first = w.first; number = k }

pub seat_here : (w : World) (k : ℕ) (s : Seat) → set_seat w.seats k s k ≡ s
seat_here w k s = grind (arith, nat_tests)

pub seat_else : (w : World) (k j : ℕ) (s : Seat) → j ≢ k → set_seat w.seats k s j ≡ w.seats j
seat_else w k j s n = grind (arith, nat_tests)

-- what the new seat has as the one before, all seats have
pub seat_same : {A : Type 0} (f : Seat → A) (w : World) (k : ℕ) (s : Seat) (q : ℕ) → f s ≡ f (w.seats k)
    → f (set_seat w.seats k s q) ≡ f (w.seats q)
seat_same f w k s q e = grind (arith, nat_tests)

-- the items in a cell may be taken
pub may_take : (w : World) (k : ℕ) (before : List Item) (item : Item) (rest : List Item) → IsSound w
    → (w.seats k).fed ≡ before ++ item ∷ rest
    → Has (seed_in w k) w.read (before ++ item ∷ []) × May (seed_in w k) (before ++ item ∷ [])
may_take w k before item rest r e =
    let has = has_front (seed_in w k) (before ++ item ∷ []) rest w.read
    (rw (e, ← append_assoc before (item ∷ []) rest) at (has_of w k r)) in
    (has, (w.read, has))

-- a cell whose worker takes its first item
pub took : (w : World) (k : ℕ) (old new : Cell) (item : Item) (gave : List Out) → IsSound w
    → IsCellOf w k old → old.items.items ≡ item ∷ new.items.items → new.taken ≡ old.taken + 1
    → new.outs.items ≡ old.outs.items ++ gave → Leads StandsFor May old.worker (item ∷ []) new.worker gave
    → Allowed w (Take k gave) × IsCellOf (world_after w (Take k gave)) k new
took w k old new item gave r is first taken outs leads =
    let seat : Seat = w.seats k in
    let rest : List Item = new.items.items in
    let fed : seat.fed ≡ is.before ++ item ∷ rest = is.fed ∙ ap (λ x. is.before ++ x) first in
    let may = may_take w k is.before item rest r fed in
    let stands = leads (seed_in w k) is.before seat.outs is.stands may.1 in
    let up : length (is.before ++ item ∷ []) ≡ seat.taken + 1 = omega (arith, is.count, length-append {A = Item}) in (
      (
        omega (arith, is.count, ap length fed, length-append {A = Item}),
        rw up at (stands.told w.read may.0),
      ),
      rw (seat_here w k (took_one seat gave)) (record {
        before = is.before ++ item ∷ [];
        fed = fed ∙ sym (append_assoc is.before (item ∷ []) rest);
        count = up;
        stands = stands;
        outs = rw (outs, is.outs) (append_assoc seat.back old.outs.items gave);
        taken = omega (arith, is.taken);
      }),
    )

-- a cell that is handed an item
pub fed_cell : (w : World) (k : ℕ) (old new : Cell) (item : Item) → IsCellOf w k old
    → new.items.items ≡ old.items.items ++ item ∷ [] → new.worker ≡ old.worker → new.taken ≡ old.taken
    → new.outs.items ≡ old.outs.items → IsCellOf (world_after w (Feed k item)) k new
fed_cell w k old new item is items worker taken outs = grind (arith, seat_here, append_assoc)

-- a cell that changed in nothing
pub same_cell : (w : World) (k : ℕ) (old new : Cell) → IsCellOf w k old → new.items.items ≡ old.items.items
    → new.worker ≡ old.worker → new.taken ≡ old.taken → new.outs.items ≡ old.outs.items → IsCellOf w k new
same_cell w k old new is items worker taken outs = grind arith
