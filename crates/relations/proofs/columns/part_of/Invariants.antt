use Rattle.std.proofs.Common.{◌≡◌, map, take}
use Rattle.mfotl_model.specs.Tables.{valuation}
use Rattle.relations.proofs.columns.part_of.Given as goal

abbrev pub invariant-loop-x : goal.invariant-loop-x
invariant-loop-x l = l.narrow ≡ map (valuation l.columns l.row) (take l.x-index l.wanted)
