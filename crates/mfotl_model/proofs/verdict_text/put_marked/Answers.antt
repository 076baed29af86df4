use Rattle.std.proofs.Common.{◌-◌, arith, to_z-of_z}
use Rattle.std.proofs.{lemmas.List.drop-set, lemmas.Grind.common_steps}
use Rattle.mfotl_model.proofs.verdict_text.put_marked.Goals as goal

pub returns-clause-written : goal.returns-clause-written
returns-clause-written c = grind (arith, common_steps, drop-set, to_z-of_z)
