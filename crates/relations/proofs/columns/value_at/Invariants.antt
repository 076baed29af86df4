use Rattle.std.proofs.Common.{◌≡◌, drop}
use Rattle.mfotl_model.specs.Tables.{valuation}
use Rattle.relations.proofs.columns.value_at.Given as goal

abbrev pub invariant-loop-i : goal.invariant-loop-i
invariant-loop-i l = valuation (drop l.i l.columns) (drop l.i l.row) l.x ≡ valuation l.columns l.row l.x
