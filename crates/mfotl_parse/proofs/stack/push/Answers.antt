use Rattle.std.proofs.Common.{◌∙◌, ap}
use Rattle.mfotl_parse.specs.Views.{stack_of}
use Rattle.mfotl_parse.proofs.StackLemmas.{stack_of_push}
use Rattle.mfotl_parse.proofs.stack.push.Goals as goal

pub returns : goal.returns
returns c = ap stack_of c.in_ok-push.ensures.items ∙ stack_of_push c.args.frames.now.items c.args.frame
