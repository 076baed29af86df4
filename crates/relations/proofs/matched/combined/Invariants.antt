use Rattle.std.proofs.Common.{◌≡◌, ◌++◌, map, take}
use Rattle.mfotl_model.specs.Tables.{valuation}
use Rattle.relations.proofs.matched.combined.Given as goal

abbrev pub invariant-loop-x : goal.invariant-loop-x
invariant-loop-x l = l.both ≡ l.first ++ map (valuation l.columns l.second) (take l.x-index l.more)
