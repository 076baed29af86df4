use Rattle.std.proofs.Common.{◌≡◌, ◌∙◌, suc, ◌+◌, ◌-◌, ◌≤◌, ◌++◌, ◌∷◌, [], map, refl, sym, ap, subst, arith}
use Rattle.std.proofs.lemmas.Grind.{common_steps}
use Rattle.verdict_merge.proofs.SlotLemmas.{put_last, slots_put}
use Rattle.verdict_merge.specs.declared.arrived.Arrived.{Arrived}
use Rattle.verdict_merge.specs.Slots.{AreSlots, WaitingOf, held, by_numbers, all_held}
use Rattle.verdict_merge.proofs.waiting.Waiting.push.Goals as goal

pub invariant_of-self-2 : goal.invariant_of-self-2
invariant_of-self-2 c =
    let w = c.self.inside in
    let a : Arrived = record { number = w.came; rows = c.args.rows } in
    let is : suc w.came ≡ c.in_ok-came.came = grind (arith, common_steps) in
    let next : w.next ≡ c.args.self.now.next = ap (λ (v : WaitingOf). v.next) c.self.view_is in
    let ahead : c.args.self.now.next ≤ c.args.rows.point = c.requires in
    let at : c.args.rows.point ≡ w.next + (c.args.rows.point - w.next) = omega (arith, next, ahead) in
    subst (λ n. AreSlots n w.next (map held c.put.new.slots.items)) is
    (subst (AreSlots (suc w.came) w.next) (sym c.in-Ok.ensures)
    (slots_put w.came w.next (c.args.rows.point - w.next) a (map held w.slots.items) refl at c.self.invariant))

pub returns : goal.returns
returns c =
    let w = c.self.inside in
    let a : Arrived = record { number = w.came; rows = c.args.rows } in
    let is : suc w.came ≡ c.in_ok-came.came = grind (arith, common_steps) in
    let last : by_numbers c.in_ok-came.came (all_held (map held c.put.new.slots.items))
    ≡ by_numbers w.came (all_held (map held w.slots.items)) ++ c.args.rows ∷ [] =
    ap (λ n. by_numbers n (all_held (map held c.put.new.slots.items))) (sym is)
    ∙ ap (λ slots. by_numbers (suc w.came) (all_held slots)) c.in-Ok.ensures
    ∙ put_last w.came w.next (c.args.rows.point - w.next) a (map held w.slots.items) refl c.self.invariant in
    rw (← c.self.view_is) (ap (λ added. record { next = w.next; added = added }) last)
