use Rattle.std.proofs.Common.{ap, ◌∙◌}
use Rattle.mfotl_model.specs.Tables.{has_row, part}
use Rattle.relations.proofs.matched.is_matched.Goals as goal

pub returns-clause-found : goal.returns-clause-found
returns-clause-found g c =
    c.has.ensures.found ∙ ap (has_row c.args.index.now.rows) (c.in_ok-key.ensures
    ∙ (λ i. part c.args.columns.now ((c.key_columns.ensures ∙ c.requires.key) i) (c.values.ensures i)))
