-- What a queue's slots are to their queue and to worlds.
use Rattle.std.proofs.Common.{◌≡◌, ℕ, zero, suc, ◌+◌, ◌<◌, ◌≤◌, true, false, cond, nat_eq, Some, None, List, [], ◌∷◌}
use Rattle.std.proofs.Common.{◌++◌, length, map, drop, take, get_or, set, sym, refl, ap, ◌∙◌, append_assoc, arith}
use Rattle.std.proofs.Common.{sum_by, ⊎_elim}
use Rattle.std.proofs.{lemmas.Bool.cases_Bool, lemmas.Bool.Decides.nat_tests, lemmas.List.Quantifiers.position-Some}
use Rattle.std.proofs.{Math.Seq.take-append_seam, lemmas.List.drop_more, lemmas.List.take_all}
use Rattle.std.proofs.{lemmas.List.FromFn.map-range_with_len_more, lemmas.List.Sums.sum_by-cons}
use Rattle.std.specs.List.{position, position_or_len}
use Rattle.mfotl_model.specs.Strategies.{Strategy}
use Rattle.rescale_core.specs.{Chances.Chance, Chances.Chance.Sure, Chances.Chance.Open}
use Rattle.rescale_core.specs.Chances.Standing.{Last, Outside, Within}
use Rattle.rescale_core.specs.Queues.{all_put, chances, queue_filled}
use Rattle.rescale_core.specs.Slots.{chance_of, ends_place, first_ends, first_awaited, is_there, lacks, slot_filled}
use Rattle.rescale_core.specs.Slots.{ready_of, standing_of, weight_of}
use Rattle.rescale_core.specs.declared.{slot.Slot.Slot, slot.Slot.TheVariants.Ready, slot.Slot.TheVariants.Awaited}
use Rattle.rescale_worker.specs.declared.{item.Item.Item, item.Item.TheVariants.Adopt}
use Rattle.monitor_state.specs.declared.state.Piece.{Piece}

-- ---- what counts

pub one_weight : (x : Slot) → weight_of x ≤ 1
one_weight x = grind arith

pub few_weigh : (xs : List Slot) → sum_by weight_of xs ≤ length xs
few_weigh [] = omega arith
few_weigh (x ∷ xs) = omega (arith, one_weight x, few_weigh xs, sum_by-cons weight_of x xs)

-- ---- what is ready

-- what is ready of a first slot and those behind it: behind an item that is there, and doesn't end a place, the count
-- goes on
first_ready : (x : Slot) (xs : List Slot)
    → length (ready_of (x ∷ xs)) ≡ cond (is_there x) (1 + cond (ends_place x) 0 (length (ready_of xs))) 0
first_ready x xs = grind arith

-- what is ready where so many are ready and x stands behind them
ready_step : (xs : List Slot) (i : ℕ) (x : Slot) → i < length xs → x ≡ get_or xs i x
    → length (ready_of xs) ≡ i + length (ready_of (drop i xs)) → length (ready_of xs)
    ≡ i + cond (is_there x) (1 + cond (ends_place x) 0 (length (ready_of (drop (i + 1) xs)))) 0
ready_step xs i x low here h = cc (drop_more xs i x low, first_ready x (drop (i + 1) xs))

-- where more may be the count goes on behind it
pub ready_more : (xs : List Slot) (i : ℕ) (x : Slot) → i < length xs → x ≡ get_or xs i x
    → length (ready_of xs) ≡ i + length (ready_of (drop i xs)) → is_there x ≡ true → ends_place x ≡ false
    → length (ready_of xs) ≡ (i + 1) + length (ready_of (drop (i + 1) xs))
ready_more xs i x low here h t e = let next = rw (t, e) at (ready_step xs i x low here h) in omega arith

-- ends behind the last one of a place
pub ready_last : (xs : List Slot) (i : ℕ) (x : Slot) → i < length xs → x ≡ get_or xs i x
    → length (ready_of xs) ≡ i + length (ready_of (drop i xs)) → is_there x ≡ true → ends_place x ≡ true
    → i + 1 ≡ length (ready_of xs)
ready_last xs i x low here h t e = let next = rw (t, e) at (ready_step xs i x low here h) in omega arith

-- and before one that isn't there
pub ready_ends : (xs : List Slot) (i : ℕ) (x : Slot) → i < length xs → x ≡ get_or xs i x
    → length (ready_of xs) ≡ i + length (ready_of (drop i xs)) → is_there x ≡ false → i ≡ length (ready_of xs)
ready_ends xs i x low here h t = let next = rw t at (ready_step xs i x low here h) in omega arith

pub ready_most : (xs : List Slot) → length (ready_of xs) ≤ length xs
ready_most [] = omega arith
ready_most (Ready i ∷ xs) = let h = ready_most xs in omega arith
ready_most (Awaited g now last None ∷ xs) = omega arith
ready_most (Awaited g now true (Some p) ∷ xs) = omega arith
ready_most (Awaited g now false (Some p) ∷ xs) = let h = ready_most xs in omega arith

-- the item of a first slot is ready first, and alone where it ends a place
first_taken : (x : Slot) (xs : List Slot) (i : Item) → chance_of x ≡ Sure i
    → ready_of (x ∷ xs) ≡ i ∷ cond (ends_place x) [] (ready_of xs)
first_taken x xs i h = grind arith

-- one item more was taken out of what is ready
pub taken_on : (old new : List Slot) (x : Slot) (i : Item) (items all : List Item) → old ≡ x ∷ new
    → chance_of x ≡ Sure i → first_ends old ≡ false → all ≡ items ++ ready_of old
    → all ≡ (items ++ i ∷ []) ++ ready_of new
taken_on old new x i items all e h ends ready = cc (append_assoc items (i ∷ []) (ready_of new), first_taken x new i h)

-- and was the last of it
pub taken_last : (old new : List Slot) (x : Slot) (i : Item) (items all : List Item) → old ≡ x ∷ new
    → chance_of x ≡ Sure i → first_ends old ≡ true → all ≡ items ++ ready_of old → all ≡ items ++ i ∷ []
taken_last old new x i items all e h ends ready = cc (first_taken x new i h)

-- all items are the first of them, where they are no more than were wanted
pub all_first : (most : ℕ) (items all : List Item) → all ≡ items → length items ≤ most → items ≡ take most all
all_first most items all e few = sym (take_all most items few) ∙ ap (take most) (sym e)

-- and so are as many as were wanted
pub most_first : (most : ℕ) (items rest all : List Item) → all ≡ items ++ rest → length items ≡ most
    → items ≡ take most all
most_first most items rest all e same = cc (take-append_seam items rest)

-- ---- where a piece goes

-- the first slot that lacks the piece gets it
fills_at : (p : Piece) (xs : List Slot) (i : ℕ) (d : Slot) → i < length xs
    → lacks p.generation (get_or xs i d) ≡ true → ((k : ℕ) → k < i → lacks p.generation (get_or xs k d) ≡ false)
    → set xs i (slot_filled p (get_or xs i d)) ≡ queue_filled p xs
fills_at p [] i d h t none = absurd (omega arith)
fills_at p (x ∷ xs) zero d h t none = rw t refl
fills_at p (x ∷ xs) (suc i) d h t none =
    let other : lacks p.generation x ≡ false = none 0 (omega arith) in
    rw other (ap (λ y. x ∷ y) (fills_at p xs i d (omega arith) t (λ k l. none (suc k) (omega arith))))

fills_none : (p : Piece) (xs : List Slot) → length xs ≤ position_or_len (lacks p.generation) xs → xs ≡ queue_filled p xs
fills_none p [] h = refl
fills_none p (x ∷ xs) h = ⊎_elim
    (λ t. absurd (let l = rw t at h in omega arith))
    (λ other. rw other (ap (λ y. x ∷ y) (fills_none p xs (let l = rw other at h in omega arith))))
    (cases_Bool (lacks p.generation x))

pub filled_at : (p : Piece) (xs : List Slot) (i : ℕ) (x : Slot) → position (lacks p.generation) xs ≡ Some i
    → x ≡ get_or xs i x → set xs i (slot_filled p x) ≡ queue_filled p xs
filled_at p xs i x e here = grind (arith, position-Some, fills_at)

pub unfilled : (p : Piece) (xs : List Slot) → position (lacks p.generation) xs ≡ None → xs ≡ queue_filled p xs
unfilled p xs e = grind (arith, fills_none)

-- one piece more
pub awaited_more : (g : ℕ) (now : Strategy) (count n : ℕ)
    → first_awaited g now count (n + 1) ≡ first_awaited g now count n ++ Awaited g now (nat_eq (n + 1) count) None ∷ []
awaited_more g now count n =
    map-range_with_len_more (λ j. Awaited g now (nat_eq (j + 1) count) None) 0 n n (omega arith)

pub awaited_pushed : (old new : List Slot) (start : List Slot) (g : ℕ) (now copy : Strategy) (count n : ℕ)
    → old ≡ start ++ first_awaited g now count n → copy ≡ now
    → new ≡ old ++ Awaited g copy (nat_eq (n + 1) count) None ∷ [] → new ≡ start ++ first_awaited g now count (n + 1)
awaited_pushed old new start g now copy count n e same pushed = grind (arith, append_assoc, awaited_more)

-- ---- pieces, in what may be handed over

-- the piece where the first of its generation is missing
abbrev pub filling : Piece → List Chance → List Chance
filling p [] = []
filling p (Sure i ∷ cs) = Sure i ∷ filling p cs
filling p (Open g now ∷ cs) = cond (nat_eq g p.generation) (Sure (Adopt p now) ∷ cs) (Open g now ∷ filling p cs)

-- those of the pieces that are for worker q, one by one
abbrev pub fillings : ℕ → List Piece → List Chance → List Chance
fillings q [] cs = cs
fillings q (p ∷ ps) cs = fillings q ps (cond (nat_eq p.to q) (filling p cs) cs)

filled_chances : (p : Piece) (xs : List Slot) → chances (queue_filled p xs) ≡ filling p (chances xs)
filled_chances p [] = refl
filled_chances p (Ready i ∷ xs) = ap (λ cs. Sure i ∷ cs) (filled_chances p xs)
filled_chances p (Awaited g now last (Some q) ∷ xs) = ap (λ cs. Sure (Adopt q now) ∷ cs) (filled_chances p xs)
filled_chances p (Awaited g now last None ∷ xs) = let rest = filled_chances p xs in grind (arith, nat_tests)

filled_standings : (p : Piece) (xs : List Slot) → map standing_of (queue_filled p xs) ≡ map standing_of xs
filled_standings p [] = refl
filled_standings p (Ready i ∷ xs) = ap (λ ss. Outside ∷ ss) (filled_standings p xs)
filled_standings p (Awaited g now last (Some q) ∷ xs) = ap (λ ss. cond last Last Within ∷ ss) (filled_standings p xs)
filled_standings p (Awaited g now last None ∷ xs) = let rest = filled_standings p xs in grind (arith, nat_tests)

pub put_chances : (q : ℕ) (ps : List Piece) (xs : List Slot) → chances (all_put q ps xs) ≡ fillings q ps (chances xs)
put_chances q [] xs = refl
put_chances q (p ∷ ps) xs =
    grind (arith, filled_chances, put_chances q ps (cond (nat_eq p.to q) (queue_filled p xs) xs))

pub put_standings : (q : ℕ) (ps : List Piece) (xs : List Slot) → map standing_of (all_put q ps xs) ≡ map standing_of xs
put_standings q [] xs = refl
put_standings q (p ∷ ps) xs =
    grind (arith, filled_standings, put_standings q ps (cond (nat_eq p.to q) (queue_filled p xs) xs))
