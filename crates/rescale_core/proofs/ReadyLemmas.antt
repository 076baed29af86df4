-- What is ready first, and what stands first in a queue.
use Rattle.std.proofs.Common.{◌≡◌, ℕ, zero, suc, Some, option_map, List, [], ◌∷◌, map, drop, refl, arith}
use Rattle.monitorable.specs.CoreForms.{CoreForm}
use Rattle.monitor_state.specs.declared.state.Piece.{Piece}
use Rattle.rescale_core.specs.{Chances.Chance, Chances.Chance.Sure}
use Rattle.rescale_worker.specs.{Lines.Due}
use Rattle.rescale_core.specs.Handing.{chance, for_place, item_of, nth, ready_items}
use Rattle.rescale_worker.specs.Lines.Due.{Slicing, Parting, Hole}
use Rattle.rescale_worker.specs.declared.{item.Item.Item, item.Item.TheVariants.Adopt}

-- what is left behind the first j begins with the j-th
nth_first : {A B : Type 0} (f : A → B) (xs : List A) (j : ℕ) (y : B) (rest : List B)
    → map f (drop j xs) ≡ y ∷ rest → option_map f (nth xs j) ≡ Some y
nth_first f [] zero y rest e = cc
nth_first f [] (suc j) y rest e = cc
nth_first f (x ∷ xs) zero y rest e = cc
nth_first f (x ∷ xs) (suc j) y rest e = nth_first f xs j y rest e

first_nth : {A B : Type 0} (f : A → B) (xs : List A) (j : ℕ) (y : B) → option_map f (nth xs j) ≡ Some y
    → (rest : List B) × (map f (drop j xs) ≡ y ∷ rest)
first_nth f [] j y e = cc
first_nth f (x ∷ xs) zero y e = (map f xs, cc)
first_nth f (x ∷ xs) (suc j) y e = first_nth f xs j y e

-- where something is ready, the first due is there
pub first_due : (c : CoreForm) (k : ℕ) (pieces : List Piece) (ds : List Due) (i : Item) (rest : List Item)
    → ready_items c k pieces ds ≡ i ∷ rest → (d : Due) × (es : List Due) × (ds ≡ d ∷ es)
    × (item_of c k pieces d ≡ Some i)
first_due c k pieces [] i rest e = cc
first_due c k pieces (Slicing g s log p ∷ ds) i rest e = (Slicing g s log p, ds, refl, cc)
first_due c k pieces (Parting t ∷ ds) i rest e = (Parting t, ds, refl, cc)
first_due c k pieces (Hole t j ∷ ds) i rest e =
    (Hole t j, ds, refl, nth_first (λ (p : Piece). Adopt p t.new) (for_place t.generation k pieces) j i rest e)

-- where the first due is there, it is ready first
pub ready_first : (c : CoreForm) (k : ℕ) (pieces : List Piece) (d : Due) (ds : List Due) (i : Item)
    → item_of c k pieces d ≡ Some i → (rest : List Item) × (ready_items c k pieces (d ∷ ds) ≡ i ∷ rest)
ready_first c k pieces (Slicing g s log p) ds i e = (ready_items c k pieces ds, cc)
ready_first c k pieces (Parting t) ds i e = (ready_items c k pieces ds, cc)
ready_first c k pieces (Hole t j) ds i e = search (first_nth)

-- what is there at the front of a queue is ready
pub queue_ready : (c : CoreForm) (k : ℕ) (pieces : List Piece) (ds : List Due) (i : Item) (rest : List Chance)
    → map (chance c k pieces) ds ≡ Sure i ∷ rest → (more : List Item) × (ready_items c k pieces ds ≡ i ∷ more)
queue_ready c k pieces [] i rest e = cc
queue_ready c k pieces (d ∷ ds) i rest e = ready_first c k pieces d ds i (grind arith)
