use Rattle.std.proofs.Common.{◌≡◌, List, take}
use Rattle.mfotl_model.specs.Tables.{has_row}
use Rattle.mfotl_model.specs.declared.value.Value.{Value}
use Rattle.relations.proofs.hashed.hashed.Given as goal

abbrev pub invariant-loop-row : goal.invariant-loop-row
invariant-loop-row l = (q : List Value) → has_row l.set.keys q ≡ has_row (take l.row-index l.rows) q
