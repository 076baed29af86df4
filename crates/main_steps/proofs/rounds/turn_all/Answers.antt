use Rattle.main_steps.proofs.{WritingLemmas.keeps_on}
use Rattle.main_steps.proofs.rounds.turn_all.Goals as goal

pub turn_one-requires-clause-stands : goal.turn_one-requires-clause-stands
turn_one-requires-clause-stands g c = c.loop-k.invariant.stands

pub loop-k-preserved : goal.loop-k-preserved
loop-k-preserved g c =
    let turned = c.in_ok-turned.ensures in
    record {
      stands = turned.stands;
      keeps = λ written tally. keeps_on (c.loop-k.invariant.keeps written tally) (turned.ok written tally);
      main = turned.main;
    }
