use Rattle.std.proofs.Common.{◌≡◌, take}
use Rattle.mfotl_model.specs.Log.{times}
use Rattle.mfotl_plain.proofs.lines.timestamps.Given as goal

abbrev pub invariant-loop-point : goal.invariant-loop-point
invariant-loop-point l =
    l.stamps.items ≡ times (take l.point-index l.log)
