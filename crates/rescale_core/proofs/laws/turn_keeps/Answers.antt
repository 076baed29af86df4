use Rattle.rescale_core.proofs.Keeping.{turn_keeps}
use Rattle.rescale_core.proofs.laws.turn_keeps.Goals as goal

pub returns : goal.returns
returns c = λ d e k turn w t is verdicts.
    let r = turn_keeps d e k turn w t is verdicts in
    (r.0, r.1, r.2, r.3.core, r.3.first, r.3.read, r.3.emitted, r.4)
