use Rattle.std.proofs.Common.{refl}
use Rattle.mfotl_model.specs.Matching.{first_value, is_match}
use Rattle.event_splitter.proofs.examples.worked_parts.Goals as goal

pub returns : goal.returns
unfolding first_value is_match
returns c = refl
