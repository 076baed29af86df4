use Rattle.std.proofs.Common.{ℕ, ◌≡◌, ap, ◌∙◌, length}
use Rattle.std.specs.Prelude.{replicate}
use Rattle.std.proofs.lemmas.List.{length-replicate, get_or-replicate}
use Rattle.turn_hub.proofs.Opens.{opens}
use Rattle.turn_hub.proofs.hub.Hub.without_hands.Goals as goal

pub over-requires-clause-rule : goal.over-requires-clause-rule
over-requires-clause-rule g c = let cells = c.in_ok-slots.ensures {u = tt} in let n : ℕ = c.len.result in
    let long : n ≡ length c.args.works.items = c.len.ensures ∙ c.args.works.ok.0 in
    let zeros : c.as_slice.result.now ≡ replicate n 0 =
    c.as_slice.ensures.value ∙ (c.in_ok-words.ensures {u = tt}).items_if_clones_equal (λ y e. e) in
    let wide : length c.as_slice.result.now ≡ n = ap length zeros ∙ length-replicate n 0 in
    rw c.of-about.ensures (opens g.W.Work.stands g.W.Work.may g.W.Work.refused g.W.Work.seed c.args.works.items
    c.as_slice.result.now c.in_ok-slots.slots.items g.met.W.Work.may_none c.requires.starts (wide ∙ long)
    (λ k near. rw zeros (get_or-replicate n k 0 0 (rw wide at near))) cells.0 cells.1)
