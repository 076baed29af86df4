use Rattle.std.proofs.Common.{rules, arith, ◌≡◌, ◌<◌, ◌≤◌, ◌%◌, ◌∙◌, [], ◌∷◌, ap, length, sym}
use Rattle.std.proofs.{lemmas.List.length-map, lemmas.List.take_all}
use Rattle.std.specs.Vec.Iter.{into_iter_items}
use Rattle.turn_hub.specs.Ends.{hand_cell}
use Rattle.hub_threads.specs.Hands.{cells_of, dealt}
use Rattle.hub_threads.proofs.DealLemmas.{next_taken, none_left, one_dealt}
use Rattle.hub_threads.proofs.HandLemmas.{first_hand, later_hands, more_hands, set_group}
use Rattle.hub_threads.proofs.dealing.deal_round.Goals.{else-loop-k-test, then-loop-k-test+in_default}
use Rattle.hub_threads.proofs.dealing.deal_round.Goals as goal

-- behind the last hand all are dealt
pub returns-clause-dealt : goal.returns-clause-dealt
returns-clause-dealt g c =
    let cells = cells_of c.args.hands.items in
    let count = length-map c.args.hands.items (λ h. hand_cell h) in
    let low : length cells ≤ c.loop-k.k = elim c.loop-k-test.branch [
      | else-loop-k-test w ↦ omega (arith, count)
      | then-loop-k-test+in_default w ↦
          let left = into_iter_items w.next.new.self in
          let same : into_iter_items c.loop-k.left ≡ left = search (w.in_default.ensures, rules) in
          let none : length left ≡ 0 = search rules in
          none_left c.loop-k.k cells (ap (λ xs. length xs) (c.loop-k.invariant.left_are ∙ ap (λ hs. cells_of hs) same)
          ∙ length-map left (λ h. hand_cell h) ∙ none)
    ] in
    rw (take_all c.loop-k.k cells low) at c.loop-k.invariant.dealt_are

-- the next hand goes from those that are left to one of the groups
pub loop-k-preserved : goal.loop-k-preserved
loop-k-preserved g c =
    let i = c.loop-k.k % c.args.count in
    let group = c.index_mut.result.now in
    let inv = c.loop-k.invariant in
    let below : i < length c.loop-k.groups.items = search rules in
    let next = next_taken c.loop-k.k (cells_of c.args.hands.items) (hand_cell c.in-Some.hand)
    (cells_of (into_iter_items c.next.new.self)) (inv.left_are ∙ ap (λ hs. cells_of hs) c.in-Some.ensures.items) in
    record {
      count = search rules;
      dealt_are = one_dealt c.loop-k.groups.items group c.push.new.self c.in-Some.hand c.args.count c.loop-k.k
          _ c.requires next.2 inv.count inv.dealt_are c.index_mut.ensures.value
          c.in_ok-push.ensures.items ∙ ap (λ xs. dealt c.args.count xs) (sym next.0);
      left_are = next.1;
      groups = λ hub ours. set_group hub c.loop-k.groups.items i c.push.new.self (inv.groups hub ours)
          (rw c.in_ok-push.ensures.items (more_hands hub group.items (c.in-Some.hand ∷ [])
          (rw c.index_mut.ensures.value (inv.groups hub ours i group below))
          (first_hand hub c.in-Some.hand _ (rw c.in-Some.ensures.items at (inv.left hub ours)))));
      left = λ hub ours. later_hands hub c.in-Some.hand _ (rw c.in-Some.ensures.items at (inv.left hub ours));
    }
