use Rattle.relations.proofs.{ColumnLemmas.common_in_second, PairLemmas.join_moved}
use Rattle.relations.proofs.join.pairs_by_second.Goals as goal

pub index_of_common-requires : goal.index_of_common-requires
index_of_common-requires g c = record {
  inside = common_in_second c.args.first.now.columns c.args.second.now.columns;
}

pub returns : goal.returns
returns g c =
    rw (c.in_ok-rows.ensures.pairs, c.in_ok-index.ensures.columns, c.columns.ensures.columns, c.rows.ensures.rows)
    (join_moved _ _ _ _ c.in_ok-index.ensures.moved _)
