use Rattle.std.proofs.Common.{◌≡◌, drop, length}
use Rattle.std.specs.Str.{bytes_eq}
use Rattle.mfotl_sig.proofs.signature.is_same.Given as goal

-- What remains decides.
abbrev pub invariant-loop-i : goal.invariant-loop-i
invariant-loop-i l =
    (bytes_eq (drop l.i l.name) (drop l.i l.other) ≡ bytes_eq l.name l.other) × (length l.name ≡ length l.other)
