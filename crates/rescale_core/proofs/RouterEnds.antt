-- A router tells where a world has ended.
use Rattle.std.proofs.Common.{◌≡◌, ℕ, zero, suc, true, false, nat_eq, Option, Some, None, List, [], ◌∷◌, length, get_or}
use Rattle.std.proofs.Common.{refl, ap, ◌∙◌, arith}
use Rattle.std.proofs.{lemmas.List.length-map, lemmas.List.nil_from_length, lemmas.Bool.Decides.nat_tests}
use Rattle.std.proofs.{lemmas.Grind.common_steps}
use Rattle.rescale_core.specs.{Slots.chance_of, Routing.HasEnded, Routing.IsRouterOf, Worlds.World}
use Rattle.std.specs.{List.list_all, Option.is_some}
use Rattle.verdict_merge.specs.{Emitted.after_emit, Emitted.merged, Gathers.complete_ts}
use Rattle.rescale_core.proofs.GatherLemmas.{gather_emitted, none_emitted}
use Rattle.rescale_core.specs.Queues.{chances, is_clear, queue_at}
use Rattle.rescale_core.specs.declared.{slot.Slot.Slot, router.Router.Router}

clear_all : (xs : List (List Slot)) → ((k : ℕ) → chances (queue_at xs k) ≡ []) → list_all is_clear xs ≡ true
clear_all [] h = refl
clear_all (x ∷ xs) h =
    let none = nil_from_length x (omega (arith, length-map x chance_of, ap length (h 0))) in
    let rest = clear_all xs (λ k. h (suc k)) in
    rw (none, rest)

zero_all : (xs : List ℕ) → ((k : ℕ) → get_or xs k 0 ≡ 0) → list_all (nat_eq 0) xs ≡ true
zero_all [] h = refl
zero_all (zero ∷ xs) h = zero_all xs (λ k. h (suc k))
zero_all (suc x ∷ xs) h = let e = h 0 in cc

none_of : {A : Type 0} (o : Option A) → is_some o ≡ false → o ≡ None
none_of o h = grind (arith, nat_tests)

pub router_ended : (r : Router) (w : World) → IsRouterOf r w → list_all is_clear r.queues.items ≡ true
    → list_all (nat_eq 0) r.outstanding.items ≡ true → is_some (complete_ts r.gather) ≡ false → HasEnded w
router_ended r w is clear zeros unready = grind (arith, common_steps, zero, common_steps, zero, none_emitted, none_of)

pub ended_clear : (r : Router) (w : World) → IsRouterOf r w → HasEnded w → list_all is_clear r.queues.items ≡ true
ended_clear r w is end = clear_all r.queues.items (λ k. is.queues k ∙ end.none_wait k)

pub ended_zero : (r : Router) (w : World) → IsRouterOf r w → HasEnded w → list_all (nat_eq 0) r.outstanding.items ≡ true
ended_zero r w is end = zero_all r.outstanding.items (λ k. omega (arith, end.all_back k, is.outstanding k))

pub ended_unready : (r : Router) (w : World) → IsRouterOf r w → HasEnded w → is_some (complete_ts r.gather) ≡ false
ended_unready r w is end = at (complete_ts r.gather) refl
  where
    at : (ts : Option ℕ) → complete_ts r.gather ≡ ts → is_some ts ≡ false
    at None e = refl
    at (Some ts) e =
        absurd (end.none_to_emit (gather_emitted r.gather (after_emit r.gather) w (merged r.gather ts) is.sound
        (ts, e, refl, refl) is.gather).0.1)
