use Rattle.std.proofs.Common.{◌≡◌, ◌++◌, map, take}
use Rattle.mfotl_model.specs.Tables.{part, valuation}
use Rattle.relations.proofs.pairs.part_of_pair.Given as goal

abbrev pub invariant-loop-x : goal.invariant-loop-x
invariant-loop-x l =
    l.narrow ≡ map (valuation (l.columns ++ l.more) (l.first ++ part l.other l.more l.second))
    (take l.x-index l.wanted)
