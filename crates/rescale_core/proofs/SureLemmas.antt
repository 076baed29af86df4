-- What stands in a queue before the first place.
use Rattle.std.proofs.Common.{◌≡◌, ◌+◌, ◌<◌, false, List, [], ◌∷◌, ◌++◌, length, map, sum_by, refl, ap, arith}
use Rattle.std.proofs.lemmas.List.Sums.{sum_by-cons}
use Rattle.rescale_core.specs.{Chances.Chance.Sure, Queues.chances, Queues.queue_filled}
use Rattle.rescale_core.specs.Slots.{first_ends, ready_of, sure, weight_of}
use Rattle.rescale_core.specs.declared.{slot.Slot.Slot, slot.Slot.TheVariants.Ready}
use Rattle.rescale_worker.specs.declared.{item.Item.Item}
use Rattle.monitor_state.specs.declared.state.Piece.{Piece}

pub sure_chances : (is : List Item) → chances (sure is) ≡ map (λ i. Sure i) is
sure_chances [] = refl
sure_chances (i ∷ is) = ap (λ cs. Sure i ∷ cs) (sure_chances is)

-- it is ready
pub sure_ready : (is : List Item) (xs : List Slot) → ready_of (sure is ++ xs) ≡ is ++ ready_of xs
sure_ready [] xs = refl
sure_ready (i ∷ is) xs = ap (λ ys. i ∷ ys) (sure_ready is xs)

-- no piece is missing there
pub sure_filled : (p : Piece) (is : List Item) (xs : List Slot)
    → sure is ++ queue_filled p xs ≡ queue_filled p (sure is ++ xs)
sure_filled p [] xs = refl
sure_filled p (i ∷ is) xs = ap (λ ys. Ready i ∷ ys) (sure_filled p is xs)

-- each counts as one
pub sure_weigh : (is : List Item) (xs : List Slot) → sum_by weight_of (sure is ++ xs) ≡ length is + sum_by weight_of xs
sure_weigh [] xs = omega arith
sure_weigh (i ∷ is) xs = omega (arith, sure_weigh is xs, sum_by-cons weight_of (Ready i) (sure is ++ xs))

-- and ends no place
pub sure_outside : (is : List Item) (xs : List Slot) → 0 < length is → false ≡ first_ends (sure is ++ xs)
sure_outside [] xs some = absurd (omega arith)
sure_outside (i ∷ is) xs some = refl
