-- Main's view of the cells is the world's.
use Rattle.std.proofs.Common.{◌≡◌, ◌≢◌, ◌⊎◌, ℕ, zero, suc, ◌+◌, ◌<◌, List, [], ◌∷◌, ◌++◌, length, take, drop, set, sym}
use Rattle.std.proofs.Common.{refl, ap, ◌∙◌, subst, inl, inr, ⊎_elim, append-nil, arith, take-add, slice_set, true}
use Rattle.std.proofs.Common.{Option, Some, None, IfSome}
use Rattle.verdict_merge.specs.declared.rows.Verdict.{Verdict}
use mathlib.Core.Option.{some}
use lib.ListN.{get_elem?}
use Rattle.turn_hub.specs.{Answers.MayHand, Ends.main_view}
use Rattle.turn_hub.proofs.Keeps.{there}
use Rattle.rescale_core.proofs.{CellLemmas.seed_in, Pieces.answers_cut, Soundness.has_of}
use Rattle.rescale_core.specs.Moving.{CellLine, IsDriverOf, IsLineOf, lines_of}
use Rattle.rescale_core.specs.{Routing.HasEnded, Routing.IsRouterOf, Soundly.IsSound, Worlds.Step.Emit}
use Rattle.rescale_worker.specs.{Seeds.SeedOf, Phases.Answers, Working.May, Working.Told, Works.MayBy, Works.ToldBy}
use Rattle.rescale_core.specs.Worlds.{World, Allowed, world_after, line_in}
use Rattle.rescale_core.specs.declared.{driver.Driver.Driver}
use Rattle.rescale_worker.specs.declared.{item.Item.Item, item.Out.Out}

-- ---- places among lines

pub get_here : {A : Type 0} (xs : List A) (k : ℕ) (x v : A) → get_elem? xs k ≡ some x
    → get_elem? (set xs k v) k ≡ some v
get_here [] k x v e = cc
get_here (z ∷ xs) zero x v e = refl
get_here (z ∷ xs) (suc k) x v e = get_here xs k x v e

-- what stands at a place behind a write is what was written, or stood there before
get_set : {A : Type 0} (xs : List A) (k q : ℕ) (v y : A) → get_elem? (set xs k v) q ≡ some y
    → ((q ≡ k) × (y ≡ v)) ⊎ ((q ≢ k) × (get_elem? xs q ≡ some y))
get_set [] k q v y e = cc
get_set (z ∷ xs) zero zero v y e = inl (refl, cc)
get_set (z ∷ xs) zero (suc q) v y e = inr ((λ same. (omega arith)), e)
get_set (z ∷ xs) (suc k) zero v y e = inr ((λ same. (omega arith)), e)
get_set (z ∷ xs) (suc k) (suc q) v y e = grind (arith, ⊎_elim, get_set xs k q v y e)

-- ---- lines

-- the outs that came back answer what was handed over last
pub answered_last : (w : World) (k : ℕ) (l : CellLine) (outs : List Out) → IsSound w → IsLineOf w k l
    → ToldBy l.seed l.handed (l.back ++ outs)
    → Answers w.core k (take l.last (drop (w.seats k).taken (line_in w k))) outs
answered_last w k l outs r il told =
    let told2 = rw il.handed at (subst (λ (y : SeedOf). Told y l.handed (l.back ++ outs)) il.seed told) in
    let sum : length (w.seats k).fed ≡ (w.seats k).taken + l.last = (let h = il.last in omega arith) in
    let all : Answers w.core k
    (take (w.seats k).taken (line_in w k) ++ take l.last (drop (w.seats k).taken (line_in w k))) (l.back ++ outs) =
    rw (sum, take-add) at (told2 w.read (has_of w k r)) in
    answers_cut w.core k (take (w.seats k).taken (line_in w k)) (take l.last (drop (w.seats k).taken (line_in w k)))
    l.back outs (rw (il.outs, ← il.back) at (r.seated k).answers) all

pub line_kept : (w x : World) (q : ℕ) (l : CellLine) → x.core ≡ w.core → x.first ≡ w.first → x.seats q ≡ w.seats q
    → IsLineOf w q l → IsLineOf x q l
line_kept w x q l c f e il = grind arith

-- main's lines, where one has changed
pub lines_set : (v v2 : List CellLine) (x : World) (k : ℕ) (new : CellLine) → v2 ≡ slice_set v k new
    → IsLineOf x k new → ((q : ℕ) (y : CellLine) → q ≢ k → get_elem? v q ≡ some y → IsLineOf x q y)
    → (q : ℕ) (y : CellLine) → get_elem? v2 q ≡ some y → IsLineOf x q y
lines_set v v2 x k new e here others q y h =
    ⊎_elim (λ same. rw (same.0, same.1) here) (λ other. others q y other.0 other.1) (get_set v k q new y (rw e at h))

-- ---- what may be handed over

-- all that was handed over might be
pub may_fed : (w : World) (k : ℕ) → IsSound w → May (seed_in w k) (w.seats k).fed
may_fed w k r = (w.read, has_of w k r)

-- main may hand nothing over, where it stands for a world
pub may_nothing : (d : Driver) (k : ℕ) (items : List Item) → items ≡ [] → k < length (lines_of d) → (w : World)
    → IsDriverOf d w → MayHand MayBy (main_view d.main) k items
may_nothing d k items e near w is =
    let l = there (lines_of d) k near in
    let il = is.lines k l.0 l.1 in (
      l.0,
      l.1,
      subst (λ (s : SeedOf). May s (l.0.handed ++ items)) (sym il.seed)
          (rw (e, append-nil, il.handed) (may_fed w k is.router.sound)),
    )

-- ---- reading, emitting and the end

-- main knows no more of a world in which no seat has moved
pub driver_on : (d e : Driver) (w x : World) → IsDriverOf d w → lines_of e ≡ lines_of d → x.core ≡ w.core
    → x.first ≡ w.first → ((q : ℕ) → x.seats q ≡ w.seats q) → IsRouterOf e.router x → IsDriverOf e x
driver_on d e w x is m core first seats router =
    record {
      router = router;
      lines = λ k l found. line_kept w x k l core first (seats k) (is.lines k l (rw m at found));
      beyond = λ k high. seats k ∙ is.beyond k (rw m at high);
    }

pub driver_emits : (d e : Driver) (o : Option Verdict) → e.main ≡ d.main
    → IfSome o (λ v. (w : World) → IsRouterOf d.router w
    → Allowed w (Emit v) × IsRouterOf e.router (world_after w (Emit v)))
    → IfSome o (λ v. (w : World) → IsDriverOf d w → Allowed w (Emit v) × IsDriverOf e (world_after w (Emit v)))
driver_emits d e None m h = tt
driver_emits d e (Some v) m h = λ w is.
    let r = h w is.router in
    (r.0, driver_on d e w (world_after w (Emit v)) is (ap (λ z. (main_view z).lines) m) refl refl (λ q. refl) r.1)

-- where all was collected, main has the turn
pub line_mine : (w : World) (k : ℕ) (l : CellLine) → IsLineOf w k l → HasEnded w → l.mine ≡ true
line_mine w k l il end = grind arith
