use Rattle.std.proofs.{Common.arith, lemmas.Bool.Decides.nat_tests}
use Rattle.mfotl_model.specs.Satisfaction.{previous}
use Rattle.eval_since.proofs.previous.PrevState.pull_first.Goals as goal

pub returns-clause-rows : goal.returns-clause-rows
unfolding previous
returns-clause-rows c = λ t a v f. grind (arith, nat_tests, c.empty.ensures.has v, c.requires.first)
