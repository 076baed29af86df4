use Rattle.std.proofs.Common.{◌≡◌, ◌∷◌, [], ℕ, ◌+◌, length, ap, ◌∙◌, length-append, ⊎_elim}
use Rattle.turn_hub.proofs.Opens.{at_end}
use Rattle.turn_hub.proofs.hub.Hub.all_hands.Goals as goal

pub loop-number-preserved : goal.loop-number-preserved
loop-number-preserved g c = let i = c.loop-number.invariant in let n = c.next_hand.ensures in let p =
    c.push_reserved.ensures in let new = c.next_hand.result in let old = c.loop-number.hands.items in (
      n.main.0,
      rw n.main.1 i.1,
      ap (λ v. v.made) n.main.1 ∙ ap (λ (k : ℕ). k + 1) i.2,
      ap length p.items ∙ length-append old (new ∷ []) ∙ ap (λ (k : ℕ). k + 1) i.3,
      λ k h e. ⊎_elim (λ t. i.4 k h t)
          (λ t. let at : k ≡ c.loop-number.number = t.0 ∙ i.3 in rw (at, ← t.1) n.hand)
          (at_end old new h k (rw p.items at e)),
      rw p.capacity i.5,
    )
