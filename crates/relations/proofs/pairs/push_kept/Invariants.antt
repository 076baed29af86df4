use Rattle.std.proofs.Common.{◌≡◌, ◌++◌, map, drop}
use Rattle.std.specs.List.{filter}
use Rattle.mfotl_model.specs.Tables.{part}
use Rattle.relations.specs.Operations.{has_part, table_of_rows}
use Rattle.relations.proofs.pairs.push_kept.Given as goal

abbrev pub invariant-loop-second : goal.invariant-loop-second
invariant-loop-second l =
    l.rows.items ++ filter (has_part (table_of_rows l.wanted l.third.keys) (l.columns ++ l.more))
    (map (λ second. l.first ++ part l.other l.more second) (drop l.second-index l.seconds))
    ≡ l.initial.rows.items ++ filter (has_part (table_of_rows l.wanted l.third.keys) (l.columns ++ l.more))
    (map (λ second. l.first ++ part l.other l.more second) l.seconds)
