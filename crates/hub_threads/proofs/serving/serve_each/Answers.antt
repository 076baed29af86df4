use Rattle.std.proofs.Common.{rules, ◌<◌, ◌∙◌, sym, length}
use Rattle.hub_threads.proofs.HandLemmas.{set_hand}
use Rattle.hub_threads.proofs.ServeLemmas.{none_found, one_found, one_looked}
use Rattle.hub_threads.proofs.serving.serve_each.Goals.{in-NotGiven, in_default}
use Rattle.hub_threads.proofs.serving.serve_each.Goals as goal

-- the hand that served is in the place of the one that was there
pub loop-k-preserved : goal.loop-k-preserved
loop-k-preserved g c =
    let hands = c.loop-k.hands.items in
    let k = c.loop-k.k in
    let hand = c.index_mut.result.now in
    let new = c.serve.new.hand in
    let inv = c.loop-k.invariant in
    let at = c.index_mut.ensures.value in
    let did = c.serve.ensures.did in
    let below : k < length hands = search rules in
    record {
      serve = set_hand c.args.hub.now _ hands k hand new at c.serve.ensures.hand.0 c.serve.ensures.hand.1 inv.serve;
      all = search rules;
      served = one_looked g.W.Work.refused hands k hand new c.serve.result below did c.args.hands.now.items at
          inv.serve.1 inv.served;
      busy = elim c.match-serve.branch [
        | in-NotGiven w ↦ w.busy-is ∙ inv.busy
            ∙ sym (none_found g.W.Work.refused hands k hand new c.serve.result below did w.in-NotGiven.is)
        | in_default w ↦ w.busy-is
            ∙ sym (one_found g.W.Work.refused hands k hand new c.serve.result below did w.in_default.not-NotGiven)
      ];
    }
