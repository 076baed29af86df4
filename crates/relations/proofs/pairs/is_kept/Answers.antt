use Rattle.std.proofs.Common.{ap, ◌∙◌}
use Rattle.mfotl_model.specs.Tables.{has_row}
use Rattle.relations.proofs.pairs.is_kept.Goals as goal

pub returns : goal.returns
returns c = c.contains.ensures ∙ ap (has_row c.args.third.now.keys) c.in_ok-key.ensures
