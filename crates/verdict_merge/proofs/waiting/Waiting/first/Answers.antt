use Rattle.std.proofs.Common.{◌∙◌, map, sym, ap}
use Rattle.verdict_merge.proofs.SlotLemmas.{first_found}
use Rattle.verdict_merge.specs.Slots.{first_of, held}
use Rattle.verdict_merge.proofs.waiting.Waiting.first.Goals as goal

pub returns-in-Some : goal.returns-in-Some
returns-in-Some c =
    let w = c.self.inside in
    rw (← c.self.view_is) (c.first.ensures ∙ ap (λ all. first_of (map (λ a. a.rows) all)) c.in-Some.ensures
    ∙ sym (first_found w.came w.next (map held w.slots.items) c.self.invariant))

pub returns-in-None : goal.returns-in-None
returns-in-None c =
    let w = c.self.inside in
    rw (← c.self.view_is) (ap (λ all. first_of (map (λ a. a.rows) all)) c.in-None.ensures
    ∙ sym (first_found w.came w.next (map held w.slots.items) c.self.invariant))
