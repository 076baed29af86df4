use Rattle.mfotl_model.specs.FreeVariables.{joined}
use Rattle.relations.specs.Operations.{has_part}
use Rattle.relations.proofs.{ColumnLemmas.common_in_second, TwiceLemmas.kept_of_join}
use Rattle.relations.proofs.joined.pairs_kept.Goals as goal

pub index_of_common-requires : goal.index_of_common-requires
index_of_common-requires g c = record {
  inside = common_in_second c.args.first.now.columns c.args.second.now.columns;
}

pub returns-clause-sized : goal.returns-clause-sized
returns-clause-sized g c = rw (← c.in_ok-index.ensures.columns) c.in_ok-rows.ensures.sized

pub returns-clause-rows : goal.returns-clause-rows
returns-clause-rows g c =
    rw (c.in_ok-rows.ensures.rows, c.in_ok-index.ensures.columns)
    (kept_of_join c.args.first.now c.args.second.now
    (has_part c.args.third.now (joined c.args.first.now.columns c.args.second.now.columns)) c.in_ok-index.index.rows
    c.in_ok-index.ensures.moved)
