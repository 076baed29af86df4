use Rattle.std.proofs.Common.{ap, ◌∙◌}
use Rattle.mfotl_model.specs.Tables.{all_among}
use Rattle.relations.specs.Operations.{common}
use Rattle.relations.proofs.join.index_of_common.Goals as goal

pub index-requires : goal.index-requires
index-requires c = record {
  inside = ap (λ k. all_among k c.args.table.now.columns)
      (c.in_ok-key.ensures ∙ (λ i. common (c.columns.ensures.columns i) (c.columns-2.ensures.columns i)))
      ∙ c.requires.inside;
}
