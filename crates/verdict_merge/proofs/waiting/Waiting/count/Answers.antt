use Rattle.std.proofs.Common.{◌∙◌, length, map, sym, ap}
use Rattle.std.proofs.lemmas.List.{length-map}
use Rattle.verdict_merge.proofs.SlotLemmas.{first_rows}
use Rattle.verdict_merge.specs.Slots.{first_held, held}
use Rattle.verdict_merge.proofs.waiting.Waiting.count.Goals as goal

pub returns-in-Some : goal.returns-in-Some
returns-in-Some c =
    let w = c.self.inside in
    let slots = map held w.slots.items in
    rw (← c.self.view_is) (c.len.ensures ∙ ap length c.in-Some.ensures
    ∙ sym (ap length (first_rows w.came w.next slots c.self.invariant)
    ∙ length-map (first_held slots) (λ a. a.rows)))

pub returns-in-None : goal.returns-in-None
returns-in-None c =
    let w = c.self.inside in
    let slots = map held w.slots.items in
    rw (← c.self.view_is) (ap length c.in-None.ensures
    ∙ sym (ap length (first_rows w.came w.next slots c.self.invariant)
    ∙ length-map (first_held slots) (λ a. a.rows)))
