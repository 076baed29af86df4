use Rattle.std.proofs.Common.{subst}
use Rattle.mfotl_parse.specs.{Reading.reading_on, Reading.reading, Views.policy_of, Views.Gives}
use Rattle.mfotl_parse.proofs.reading.read.Goals as goal

pub returns : goal.returns
unfolding reading
returns c =
    subst (λ p. Gives policy_of c.take_text.result (reading_on c.args.signature.now c.args.bytes.now p))
    c.new-parser.ensures c.take_text.ensures
