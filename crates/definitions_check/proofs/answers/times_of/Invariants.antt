use Rattle.std.proofs.Common.{◌≡◌, ◌++◌, drop}
use Rattle.mfotl_model.specs.Log.{times}
use Rattle.definitions_check.proofs.answers.times_of.Given as goal

abbrev pub invariant-loop-point : goal.invariant-loop-point
invariant-loop-point l = l.stamps.items ++ times (drop l.point-index l.log) ≡ times l.log
