use Rattle.std.proofs.Common.{◌≡◌, drop, length}
use Rattle.std.specs.Str.{bytes_eq}
use Rattle.log_reader.proofs.recent_texts.is_same.Given as goal

-- What remains decides.
abbrev pub invariant-loop-i : goal.invariant-loop-i
invariant-loop-i l =
    (bytes_eq (drop l.i l.left) (drop l.i l.right) ≡ bytes_eq l.left l.right) × (length l.left ≡ length l.right)
