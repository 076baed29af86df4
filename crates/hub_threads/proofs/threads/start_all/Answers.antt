use Rattle.std.proofs.Common.{arith, ap, length}
use Rattle.std.proofs.lemmas.List.Elements.{All-tail}
use Rattle.hub_threads.specs.Hands.{AreHandsOf}
use Rattle.hub_threads.proofs.threads.start_all.Goals as goal

-- the groups behind the next one are the hub's, too, and each has its bell
pub loop-t-preserved : goal.loop-t-preserved
loop-t-preserved g c =
    let steps = c.in-Some.ensures.steps in
    let next = steps.0.0 in
    let count = ap (λ gs. length gs) next in
    record {
      groups = All-tail (λ h. AreHandsOf c.args.context.now.hub.now h.items) _ _
          (rw next at c.loop-t.invariant.groups);
      bells = omega (arith, c.loop-t.invariant.bells, count, steps.2);
      own = c.start_one.ensures.own;
    }
