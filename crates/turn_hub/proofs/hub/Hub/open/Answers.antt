use Rattle.std.proofs.Common.{◌∙◌}
use Rattle.turn_hub.specs.Ends.{IsHandOf}
use Rattle.turn_hub.proofs.Opens.{all_at}
use Rattle.turn_hub.proofs.hub.Hub.open.Goals as goal

pub returns-clause-hands : goal.returns-clause-hands
returns-clause-hands g c =
    let made = c.all_hands.ensures.hands in
    let all = all_at (λ h. IsHandOf (c.in_ok-hub.hub) h) c.all_hands.new.hands.items (λ k h e. (made.1 k h e).1) in
    (made.0 ∙ c.len-count.ensures ∙ c.args.works.ok.0, (λ k h e. (made.1 k h e).0), all)
