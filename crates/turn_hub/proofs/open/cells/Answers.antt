use Rattle.std.proofs.Common.{◌≡◌, ◌++◌, ◌+◌, [], ◌∷◌, ℕ, List, length, ap, sym, ◌∙◌, append-nil, append_assoc}
use Rattle.std.proofs.Common.{length-append, Option, Some, ⊎_elim, arith}
use Rattle.std.proofs.lemmas.List.{nil_from_length}
use mathlib.Core.Option.{some}
use lib.ListN.{get_elem?}
use Rattle.atomic_table.proofs.Lists.{at_longer, at_last}
use Rattle.turn_hub.specs.declared.view.Cell.{Cell}
use Rattle.turn_hub.specs.Ends.{IsFresh}
use Rattle.turn_hub.proofs.Opens.{at_end}
use Rattle.turn_hub.proofs.open.cells.Goals as goal

more_fresh : {W I O : Type 0} (works : List W) (slots : List (Option (Cell W I O))) (w : W) (c : Cell W I O)
    → length slots ≡ length works → (c.work ≡ w) × (c.count ≡ 0) × (c.outs.items ≡ [])
    → ((k : ℕ) (x : W) → get_elem? works k ≡ some x → IsFresh slots k x) → (k : ℕ) (x : W)
    → get_elem? (works ++ w ∷ []) k ≡ some x → IsFresh (slots ++ Some c ∷ []) k x
more_fresh works slots w c long new old k x e = ⊎_elim
    (λ t. let f = old k x t in (f.0, at_longer slots (Some c ∷ []) k (Some f.0) f.1, f.2, f.3, f.4))
    (λ t. (c, rw t.0 (at_last slots (Some c) (length works) long), new.0 ∙ t.1, new.1, new.2)) (at_end works w x k e)

pub push_reserved-requires : goal.push_reserved-requires
push_reserved-requires g c =
    let i = c.loop-work.invariant in
    let all = simp length-append at (ap length (rw (c.in-Some.ensures {u = tt}).steps.0 at i.0)) in
    omega (arith, i.1, i.3, c.loop-work.slots.ok.0)

pub loop-work-preserved : goal.loop-work-preserved
loop-work-preserved g c = let steps = (c.in-Some.ensures {u = tt}).steps in let i = c.loop-work.invariant in let p =
    c.push_reserved.ensures in let done = c.loop-work.yielded in (
      rw (append_assoc, ← steps.0) i.0,
      rw (p.items, length-append, length-append) (ap (λ (n : ℕ). n + 1) i.1),
      λ k w e. rw p.items (more_fresh done c.loop-work.slots.items c.in-Some.work c.fresh.result i.1 c.fresh.ensures
          i.2 k w e),
      rw p.capacity i.3,
    )

pub returns : goal.returns
returns g c = let i = c.loop-work.invariant in let rest = c.loop-work.work-iterator.rest in
    let none = nil_from_length rest.items (sym rest.ok.0 ∙ (c.in-None.ensures {u = tt}).steps.0) in
    let all : c.args.works.items ≡ c.loop-work.yielded = rw (i.0, none, append-nil) in
    (rw all i.1, λ k w e. i.2 k w (rw all at e))
