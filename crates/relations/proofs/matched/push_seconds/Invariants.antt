use Rattle.std.proofs.Common.{◌≡◌, ◌++◌, map, drop}
use Rattle.mfotl_model.specs.Tables.{part}
use Rattle.relations.proofs.matched.push_seconds.Given as goal

abbrev pub invariant-loop-second : goal.invariant-loop-second
invariant-loop-second l =
    l.rows.items ++ map (λ second. l.row ++ part l.columns l.more second) (drop l.second-index l.seconds)
    ≡ l.initial.rows.items ++ map (λ second. l.row ++ part l.columns l.more second) l.seconds
