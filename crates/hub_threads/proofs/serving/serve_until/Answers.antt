use Rattle.std.proofs.Common.{rules, ◌+◌}
use Rattle.hub_threads.proofs.ServeLemmas.{looked_not, looked_on}
use Rattle.hub_threads.proofs.serving.serve_until.Goals as goal

pub loop-init : goal.loop-init
loop-init g c =
    record { serve = search rules; served = (0, looked_not c.args.hands.items); goes = tt; finite = tt }

-- a round more, in which each hand looked once
pub loop-preserved : goal.loop-preserved
loop-preserved g c =
    let before = c.loop.invariant.served in
    let round = c.serve_round-idle in
    record {
      serve = search rules;
      served = (
        before.0 + 1,
        looked_on before.0 1 c.args.hands.items c.loop.hands.items round.new.hands.items before.1
            round.ensures.served,
      );
      goes = tt;
      finite = tt;
    }
