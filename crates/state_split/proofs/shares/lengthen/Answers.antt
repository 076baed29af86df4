use Rattle.std.proofs.Common.{◌≡◌, ◌∙◌, arith, ap, suc, ◌+◌, length}
use Rattle.std.proofs.lemmas.List.{length-set}
use Rattle.state_split.proofs.ShareLemmas.{longer_step}
use Rattle.state_split.proofs.shares.lengthen.Goals as goal

pub loop-at-preserved : goal.loop-at-preserved
loop-at-preserved g c =
    let at = c.loop-at.at in
    let inv = c.loop-at.invariant in
    let rest = c.in-Some.ensures.cases.0 in
    let sized = length-set c.loop-at.shares.items at c.push.new.self in
    let next : at + 1 ≡ suc at = omega arith in
    record {
      sized = sized ∙ inv.sized;
      rest = omega (arith, sized, inv.rest, ap length rest);
      done = rw next (longer_step (λ s. s.items) c.loop-at.shares.items at c.index_mut.result.now c.push.new.self
          c.in-Some.element _ _ _ (omega (arith, inv.rest, ap length rest)) c.index_mut.ensures.value
          c.in_ok-push.ensures.items rest inv.done);
    }
