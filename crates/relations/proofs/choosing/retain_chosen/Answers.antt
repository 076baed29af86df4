use Rattle.std.proofs.{Common.rules, lemmas.Fn.filter_same}
use Rattle.mfotl_model.specs.Tables.{valuation}
use Rattle.relations.specs.Operations.{chosen}
use Rattle.relations.proofs.choosing.retain_chosen.Goals as goal

pub returns : goal.returns
returns c =
    filter_same _ (λ row. chosen c.args.comparison.now c.args.wanted (valuation c.args.columns.now row)) _
    (λ x b f' h. search rules) c.args.rows.now.items c.retain.new.self.items c.retain.ensures.filtered
