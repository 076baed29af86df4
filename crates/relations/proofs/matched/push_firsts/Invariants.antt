use Rattle.std.proofs.Common.{◌≡◌, ◌++◌, map, drop}
use Rattle.mfotl_model.specs.Tables.{part}
use Rattle.relations.proofs.matched.push_firsts.Given as goal

abbrev pub invariant-loop-first : goal.invariant-loop-first
invariant-loop-first l =
    l.rows.items ++ map (λ first. first ++ part l.columns l.more l.second) (drop l.first-index l.firsts)
    ≡ l.initial.rows.items ++ map (λ first. first ++ part l.columns l.more l.second) l.firsts
