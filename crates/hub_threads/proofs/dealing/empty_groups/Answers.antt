use Rattle.std.proofs.Common.{rules}
use Rattle.hub_threads.proofs.DealLemmas.{none_dealt}
use Rattle.hub_threads.proofs.HandLemmas.{more_groups, no_groups, no_hands}
use Rattle.hub_threads.proofs.dealing.empty_groups.Goals as goal

pub loop-init : goal.loop-init
loop-init g c = rw c.new-groups.ensures.items (record { count = search rules; none = search rules; hands = no_groups })

-- a group without hands stands behind the others
pub loop-preserved : goal.loop-preserved
loop-preserved g c = record {
  count = search rules;
  none = rw c.in_ok-push.ensures.items
      (none_dealt c.loop.groups.items c.new.result c.loop.counter c.loop.invariant.none c.new.ensures.items);
  hands = λ hub. rw c.in_ok-push.ensures.items (more_groups hub c.loop.groups.items c.new.result
      (c.loop.invariant.hands hub) (rw c.new.ensures.items (no_hands hub)));
}
