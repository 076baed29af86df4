use Rattle.mfotl_model.specs.Tables.{part}
use Rattle.relations.proofs.MatchLemmas.{matched}
use Rattle.relations.proofs.index.matching.Goals as goal

pub returns-clause-rows : goal.returns-clause-rows
returns-clause-rows g c =
    matched (part c.args.columns.now c.args.key_columns.now) c.args.rows.now c.args.keys.now c.args.key.now
    c.requires.keys
    c.place-low.result c.place-high.result c.place-low.ensures.within c.place-high.ensures.within
    c.place-low.ensures.below c.place-low.ensures.above c.place-high.ensures.below c.place-high.ensures.above
